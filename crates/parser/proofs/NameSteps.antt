-- Reading of names and paths, in the steps of the code.
use Rattle.std.proofs.Common.{if◌then◌else◌, ◌≡◌, Bool, true, false, ◌||◌, List, [], ◌∷◌, Some, None, refl}
use Rattle.lexer.specs.declared.token.Token.{Token}
use Rattle.parser_grammar.specs.declared.terminal.Terminal.TheVariants as word
use Rattle.parser_grammar.specs.Terminals.{is, is_name}
use Rattle.parser_grammar.specs.Readers.{lead, expect, pick}
use Rattle.parser_grammar.specs.ReadExpressions.{name_of, members, path_words}
use Rattle.parser_grammar.specs.ReadFiles.{is_verb_token}
use Rattle.parser.specs.declared.stop.Stop.{Stop}
use Rattle.parser.specs.Views.{Fails}
use Rattle.parser.proofs.Steps.{failing}

verb-first : {A : Type 0} (a b : Bool) (p q : A) → (if a then Some p else None) ≡ Some q
    → (if a || b then Some p else None) ≡ Some q
verb-first true b p q h = h
verb-first false b p q h = absurd cc

verb-second : {A : Type 0} (a b : Bool) (p q : A) → (if b then Some p else None) ≡ Some q
    → (if a || b then Some p else None) ≡ Some q
verb-second true true p q h = h
verb-second false true p q h = h
verb-second a false p q h = absurd cc

verb-neither : {A : Type 0} (a b : Bool) (p : A) → (if a then Some p else None) ≡ None → (if b then Some p else None)
    ≡ None → (if a || b then Some p else None) ≡ None
verb-neither true b p h k = absurd cc
verb-neither false true p h k = absurd cc
verb-neither false false p h k = refl

pub name-nil : (ts : List Token) → ts ≡ [] → pick name_of ts ≡ None
unfolding pick
name-nil ts h = rw (h) refl

pub name-no : (ts : List Token) (t : Token) (us : List Token) → ts ≡ t ∷ us → false ≡ is_name t → pick name_of ts ≡ None
unfolding pick name_of
name-no ts t us h k = rw (h, ← k) refl

pub name-yes : (ts : List Token) (t : Token) (us : List Token) → ts ≡ t ∷ us → true ≡ is_name t
    → pick name_of ts ≡ Some (t, us)
unfolding pick name_of
name-yes ts t us h k = rw (h, ← k) refl

pub lead-name-nil : (ts : List Token) → ts ≡ [] → lead is_name ts ≡ None
unfolding lead
lead-name-nil ts h = rw (h) refl

pub lead-name-no : (ts : List Token) (t : Token) (us : List Token) → ts ≡ t ∷ us → false ≡ is_name t
    → lead is_name ts ≡ None
unfolding lead
lead-name-no ts t us h k = rw (h, ← k) refl

pub lead-name-yes : (ts : List Token) (t : Token) (us : List Token) → ts ≡ t ∷ us → true ≡ is_name t
    → lead is_name ts ≡ Some (t, us)
unfolding lead
lead-name-yes ts t us h k = rw (h, ← k) refl

pub verb-assert : (ts : List Token) (t : Token) (us : List Token) → expect word.Assert ts ≡ Some (t, us)
    → lead is_verb_token ts ≡ Some (t, us)
unfolding expect lead is_verb_token
verb-assert [] t us h = h
verb-assert (q ∷ qs) t us h =
    verb-first {A = Token × List Token} (is word.Assert q) (is word.Assume q) (q, qs) (t, us) h

pub verb-assume : (ts : List Token) (t : Token) (us : List Token) → expect word.Assume ts ≡ Some (t, us)
    → lead is_verb_token ts ≡ Some (t, us)
unfolding expect lead is_verb_token
verb-assume [] t us h = h
verb-assume (q ∷ qs) t us h =
    verb-second {A = Token × List Token} (is word.Assert q) (is word.Assume q) (q, qs) (t, us) h

pub verb-no : (ts : List Token) → expect word.Assert ts ≡ None → expect word.Assume ts ≡ None → lead is_verb_token ts
    ≡ None
unfolding expect lead is_verb_token
verb-no [] h k = refl
verb-no (q ∷ qs) h k = verb-neither {A = Token × List Token} (is word.Assert q) (is word.Assume q) (q, qs) h k

pub path-fail1 : (ts : List Token) (x : Stop) → Fails x (pick name_of ts) → Fails x (path_words ts)
unfolding path_words
path-fail1 ts x f = failing x _ _ (λ none. rw (none) refl) f

pub path-fail2 : (ts : List Token) (n : Token) (us : List Token) (x : Stop) → pick name_of ts ≡ Some (n, us)
    → Fails x (members us) → Fails x (path_words ts)
unfolding path_words
path-fail2 ts n us x h1 f = failing x _ _ (λ none. rw (h1, none) refl) f

pub path-ok : (ts : List Token) (n : Token) (us : List Token) (q : List Token) (vs : List Token)
    → pick name_of ts ≡ Some (n, us) → members us ≡ Some (q, vs) → path_words ts ≡ Some (n ∷ q, vs)
unfolding path_words
path-ok ts n us q vs h1 h2 = rw (h1, h2) refl

pub ruleset for_name = (name-nil, name-no, name-yes)

pub ruleset for_lead_name = (lead-name-nil, lead-name-no, lead-name-yes)

pub ruleset for_verb = (verb-no, verb-assert, verb-assume)

pub ruleset for_path = (path-fail1, path-fail2, path-ok)
