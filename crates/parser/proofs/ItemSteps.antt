-- Reading of items, in the steps of the code.
use Rattle.std.proofs.Common.{if◌then◌else◌, ◌≡◌, ℕ, Bool, true, false, ◌&&◌, List, [], ◌∷◌, Option, Some, None}
use Rattle.std.proofs.Common.{option_map, refl}
use Rattle.std.specs.Str.{bytes_eq}
use Rattle.lexer.specs.declared.token.Token.{Token}
use Rattle.parser_grammar.specs.declared.bound.Bound.{Bound}
use Rattle.parser_grammar.specs.declared.terminal.Terminal.{Terminal}
use Rattle.parser_grammar.specs.declared.terminal.Terminal.TheVariants as word
use Rattle.parser_grammar.specs.declared.terminal.Terminal.TheVariants.{OpenRound, CloseRound, OpenSquare, CloseSquare}
use Rattle.parser_grammar.specs.declared.terminal.Terminal.TheVariants.{Comma}
use Rattle.parser_grammar.specs.declared.terminal.Terminal.TheVariants.{Semicolon, Colon, AtSign, Posedge, Disable, Iff}
use Rattle.parser_grammar.specs.declared.terminal.Terminal.TheVariants.{EndSequence, End}
use Rattle.parser_grammar.specs.Terminals.{is, is_name, is_word}
use Rattle.parser_grammar.specs.Bounds.{bound_within}
use Rattle.parser_grammar.specs.Trees.{Tree, SequenceForm, PropertyForm, declaration}
use Rattle.parser_grammar.specs.Readers.{lead, expect, pick, optional}
use Rattle.parser_grammar.specs.ReadExpressions.{name_of, path_words, expression}
use Rattle.parser_grammar.specs.ReadSequences.{whole, property}
use Rattle.parser_grammar.specs.Files.{most_open, in_one, in_two}
use Rattle.parser_grammar.specs.ReadFiles.{one_operand, two_operands, counter_head, counter_form, counter_item}
use Rattle.parser_grammar.specs.ReadFiles.{again_of, skip}
use Rattle.parser_grammar.specs.ReadFiles.{ending_of, declaration_item, is_verb_token, opening_words, clock_words}
use Rattle.parser_grammar.specs.ReadFiles.{disable_reader, property_end, assertion_form, assertion_item, label_reader}
use Rattle.parser_grammar.specs.ReadFiles.{declaration_reader, item, is_more}
use Rattle.parser.specs.declared.stop.Stop.{Stop}
use Rattle.parser.specs.Views.{Fails}
use Rattle.parser.proofs.Steps.{failing}

again-split : (b : Bool) (t : Token) (us : List Token)
    → option_map {T = Token} {U = Token × List Token} (λ (a : Token). (a, us)) (if b && false then Some t else None)
    ≡ None
again-split true t us = refl
again-split false t us = refl

pub one-fail1 : (d : ℕ) (ts : List Token) (x : Stop) → Fails x (expect OpenRound ts) → Fails x (one_operand d ts)
unfolding one_operand
one-fail1 d ts x f = failing x _ _ (λ none. rw (none) refl) f

pub one-fail2 : (d : ℕ) (ts : List Token) (o : Token) (us : List Token) (x : Stop) → expect OpenRound ts ≡ Some (o, us)
    → Fails x (expression d us) → Fails x (one_operand d ts)
unfolding one_operand
one-fail2 d ts o us x h1 f = failing x _ _ (λ none. rw (h1, none) refl) f

pub one-fail3 : (d : ℕ) (ts : List Token) (o : Token) (us : List Token) (e : Tree) (vs : List Token) (x : Stop)
    → expect OpenRound ts ≡ Some (o, us) → expression d us ≡ Some (e, vs) → Fails x (expect CloseRound vs)
    → Fails x (one_operand d ts)
unfolding one_operand
one-fail3 d ts o us e vs x h1 h2 f = failing x _ _ (λ none. rw (h1, h2, none) refl) f

pub one-ok : (d : ℕ) (ts : List Token) (o : Token) (us : List Token) (e : Tree) (vs : List Token) (c : Token)
    (ws : List Token) → expect OpenRound ts ≡ Some (o, us) → expression d us ≡ Some (e, vs) → expect CloseRound vs
    ≡ Some (c, ws) → one_operand d ts ≡ Some (e, ws)
unfolding one_operand
one-ok d ts o us e vs c ws h1 h2 h3 = rw (h1, h2, h3) refl

pub two-fail1 : (ts : List Token) (x : Stop) → Fails x (expect OpenRound ts) → Fails x (two_operands ts)
unfolding two_operands
two-fail1 ts x f = failing x _ _ (λ none. rw (none) refl) f

pub two-fail2 : (ts : List Token) (o : Token) (us : List Token) (x : Stop) → expect OpenRound ts ≡ Some (o, us)
    → Fails x (expression in_one us) → Fails x (two_operands ts)
unfolding two_operands
two-fail2 ts o us x h1 f = failing x _ _ (λ none. rw (h1, none) refl) f

pub two-fail3 : (ts : List Token) (o : Token) (us : List Token) (a : Tree) (vs : List Token) (x : Stop)
    → expect OpenRound ts ≡ Some (o, us) → expression in_one us ≡ Some (a, vs) → Fails x (expect Comma vs)
    → Fails x (two_operands ts)
unfolding two_operands
two-fail3 ts o us a vs x h1 h2 f = failing x _ _ (λ none. rw (h1, h2, none) refl) f

pub two-fail4 : (ts : List Token) (o : Token) (us : List Token) (a : Tree) (vs : List Token) (m : Token)
    (ms : List Token) (x : Stop) → expect OpenRound ts ≡ Some (o, us) → expression in_one us ≡ Some (a, vs)
    → expect Comma vs ≡ Some (m, ms) → Fails x (expression in_one ms) → Fails x (two_operands ts)
unfolding two_operands
two-fail4 ts o us a vs m ms x h1 h2 h3 f = failing x _ _ (λ none. rw (h1, h2, h3, none) refl) f

pub two-fail5 : (ts : List Token) (o : Token) (us : List Token) (a : Tree) (vs : List Token) (m : Token)
    (ms : List Token) (b : Tree) (ws : List Token) (x : Stop) → expect OpenRound ts ≡ Some (o, us)
    → expression in_one us ≡ Some (a, vs) → expect Comma vs ≡ Some (m, ms) → expression in_one ms ≡ Some (b, ws)
    → Fails x (expect CloseRound ws) → Fails x (two_operands ts)
unfolding two_operands
two-fail5 ts o us a vs m ms b ws x h1 h2 h3 h4 f = failing x _ _ (λ none. rw (h1, h2, h3, h4, none) refl) f

pub two-ok : (ts : List Token) (o : Token) (us : List Token) (a : Tree) (vs : List Token) (m : Token) (ms : List Token)
    (b : Tree) (ws : List Token) (c : Token) (xs : List Token) → expect OpenRound ts ≡ Some (o, us)
    → expression in_one us ≡ Some (a, vs) → expect Comma vs ≡ Some (m, ms) → expression in_one ms ≡ Some (b, ws)
    → expect CloseRound ws ≡ Some (c, xs) → two_operands ts ≡ Some ((a, b), xs)
unfolding two_operands
two-ok ts o us a vs m ms b ws c xs h1 h2 h3 h4 h5 = rw (h1, h2, h3, h4, h5) refl

pub head-fail1 : (ts : List Token) (x : Stop) → Fails x (pick name_of ts) → Fails x (counter_head ts)
unfolding counter_head
head-fail1 ts x f = failing x _ _ (λ none. rw (none) refl) f

pub head-fail2 : (ts : List Token) (n : Token) (us : List Token) (x : Stop) → pick name_of ts ≡ Some (n, us)
    → Fails x (expect OpenSquare us) → Fails x (counter_head ts)
unfolding counter_head
head-fail2 ts n us x h1 f = failing x _ _ (λ none. rw (h1, none) refl) f

pub head-fail3 : (ts : List Token) (n : Token) (us : List Token) (o : Token) (vs : List Token) (x : Stop)
    → pick name_of ts ≡ Some (n, us) → expect OpenSquare us ≡ Some (o, vs) → Fails x (pick (bound_within 1 128) vs)
    → Fails x (counter_head ts)
unfolding counter_head
head-fail3 ts n us o vs x h1 h2 f = failing x _ _ (λ none. rw (h1, h2, none) refl) f

pub head-fail4 : (ts : List Token) (n : Token) (us : List Token) (o : Token) (vs : List Token) (w : Bound)
    (ws : List Token) (x : Stop) → pick name_of ts ≡ Some (n, us) → expect OpenSquare us ≡ Some (o, vs)
    → pick (bound_within 1 128) vs ≡ Some (w, ws) → Fails x (expect CloseSquare ws) → Fails x (counter_head ts)
unfolding counter_head
head-fail4 ts n us o vs w ws x h1 h2 h3 f = failing x _ _ (λ none. rw (h1, h2, h3, none) refl) f

pub head-ok : (ts : List Token) (n : Token) (us : List Token) (o : Token) (vs : List Token) (w : Bound)
    (ws : List Token) (c : Token) (xs : List Token) → pick name_of ts ≡ Some (n, us) → expect OpenSquare us
    ≡ Some (o, vs) → pick (bound_within 1 128) vs ≡ Some (w, ws) → expect CloseSquare ws ≡ Some (c, xs)
    → counter_head ts ≡ Some ((n, w), xs)
unfolding counter_head
head-ok ts n us o vs w ws c xs h1 h2 h3 h4 = rw (h1, h2, h3, h4) refl

pub counter-fail1 : (ts : List Token) (x : Stop) → Fails x (counter_head ts) → Fails x (counter_item ts)
unfolding counter_item
counter-fail1 ts x f = failing x _ _ (λ none. rw (none) refl) f

pub counter-fail2 : (ts : List Token) (n : Token) (w : Bound) (us : List Token) (x : Stop)
    → counter_head ts ≡ Some ((n, w), us) → Fails x (optional word.Clear (one_operand in_one) us)
    → Fails x (counter_item ts)
unfolding counter_item
counter-fail2 ts n w us x h1 f = failing x _ _ (λ none. rw (h1, none) refl) f

pub counter-fail3 : (ts : List Token) (n : Token) (w : Bound) (us : List Token) (a : Option Tree) (vs : List Token)
    (x : Stop) → counter_head ts ≡ Some ((n, w), us) → optional word.Clear (one_operand in_one) us ≡ Some (a, vs)
    → Fails x (optional word.Load two_operands vs) → Fails x (counter_item ts)
unfolding counter_item
counter-fail3 ts n w us a vs x h1 h2 f = failing x _ _ (λ none. rw (h1, h2, none) refl) f

pub counter-fail4 : (ts : List Token) (n : Token) (w : Bound) (us : List Token) (a : Option Tree) (vs : List Token)
    (b : Option (Tree × Tree)) (ws : List Token) (x : Stop) → counter_head ts ≡ Some ((n, w), us)
    → optional word.Clear (one_operand in_one) us ≡ Some (a, vs) → optional word.Load two_operands vs ≡ Some (b, ws)
    → Fails x (optional word.Add two_operands ws) → Fails x (counter_item ts)
unfolding counter_item
counter-fail4 ts n w us a vs b ws x h1 h2 h3 f = failing x _ _ (λ none. rw (h1, h2, h3, none) refl) f

pub counter-fail5 : (ts : List Token) (n : Token) (w : Bound) (us : List Token) (a : Option Tree) (vs : List Token)
    (b : Option (Tree × Tree)) (ws : List Token) (c : Option (Tree × Tree)) (xs : List Token) (x : Stop)
    → counter_head ts ≡ Some ((n, w), us) → optional word.Clear (one_operand in_one) us ≡ Some (a, vs)
    → optional word.Load two_operands vs ≡ Some (b, ws) → optional word.Add two_operands ws ≡ Some (c, xs)
    → Fails x (optional word.Sub two_operands xs) → Fails x (counter_item ts)
unfolding counter_item
counter-fail5 ts n w us a vs b ws c xs x h1 h2 h3 h4 f = failing x _ _ (λ none. rw (h1, h2, h3, h4, none) refl) f

pub counter-fail6 : (ts : List Token) (n : Token) (w : Bound) (us : List Token) (a : Option Tree) (vs : List Token)
    (b : Option (Tree × Tree)) (ws : List Token) (c : Option (Tree × Tree)) (xs : List Token)
    (g : Option (Tree × Tree)) (ys : List Token) (x : Stop) → counter_head ts ≡ Some ((n, w), us)
    → optional word.Clear (one_operand in_one) us ≡ Some (a, vs) → optional word.Load two_operands vs ≡ Some (b, ws)
    → optional word.Add two_operands ws ≡ Some (c, xs) → optional word.Sub two_operands xs ≡ Some (g, ys)
    → Fails x (expect Semicolon ys) → Fails x (counter_item ts)
unfolding counter_item
counter-fail6 ts n w us a vs b ws c xs g ys x h1 h2 h3 h4 h5 f =
    failing x _ _ (λ none. rw (h1, h2, h3, h4, h5, none) refl) f

pub counter-ok : (ts : List Token) (n : Token) (w : Bound) (us : List Token) (a : Option Tree) (vs : List Token)
    (b : Option (Tree × Tree)) (ws : List Token) (c : Option (Tree × Tree)) (xs : List Token)
    (g : Option (Tree × Tree)) (ys : List Token) (s : Token) (zs : List Token) → counter_head ts ≡ Some ((n, w), us)
    → optional word.Clear (one_operand in_one) us ≡ Some (a, vs) → optional word.Load two_operands vs ≡ Some (b, ws)
    → optional word.Add two_operands ws ≡ Some (c, xs) → optional word.Sub two_operands xs ≡ Some (g, ys)
    → expect Semicolon ys ≡ Some (s, zs) → counter_item ts ≡ Some (counter_form n w a b c g, zs)
unfolding counter_item
counter-ok ts n w us a vs b ws c xs g ys s zs h1 h2 h3 h4 h5 h6 = rw (h1, h2, h3, h4, h5, h6) refl

pub again-nil : (name : Token) (ts : List Token) → ts ≡ [] → pick (again_of name) ts ≡ None
unfolding pick
again-nil name ts h = rw (h) refl

pub again-no-word : (name : Token) (ts : List Token) (t : Token) (us : List Token) → ts ≡ t ∷ us → false ≡ is_word t
    → pick (again_of name) ts ≡ None
unfolding pick again_of
again-no-word name ts t us h k = rw (h, ← k) refl

pub again-other : (name : Token) (ts : List Token) (t : Token) (us : List Token) → ts ≡ t ∷ us
    → false ≡ bytes_eq t.text.now name.text.now → pick (again_of name) ts ≡ None
unfolding pick again_of
again-other name ts t us h k = rw (h, ← k) (again-split (is_word t) t us)

pub again-ok : (name : Token) (ts : List Token) (t : Token) (us : List Token) → ts ≡ t ∷ us → true ≡ is_word t
    → true ≡ bytes_eq t.text.now name.text.now → pick (again_of name) ts ≡ Some (t, us)
unfolding pick again_of
again-ok name ts t us h k l = rw (h, ← k, ← l) refl

pub skip-no : (w : Terminal) (ts : List Token) → expect w ts ≡ None → ts ≡ skip w ts
unfolding skip
skip-no w ts h = rw (h) refl

pub skip-yes : (w : Terminal) (ts : List Token) (t : Token) (us : List Token) → expect w ts ≡ Some (t, us)
    → us ≡ skip w ts
unfolding skip
skip-yes w ts t us h = rw (h) refl

pub ending-fail1 : (n : Token) (ts qs : List Token) (x : Stop) → qs ≡ skip Semicolon ts
    → Fails x (expect EndSequence qs) → Fails x (ending_of n ts)
unfolding ending_of
ending-fail1 n ts qs x s f = failing x _ _ (λ none. rw (← s, none) refl) f

pub ending-fail2 : (n : Token) (ts qs : List Token) (e : Token) (us : List Token) (x : Stop) → qs ≡ skip Semicolon ts
    → expect EndSequence qs ≡ Some (e, us) → Fails x (optional Colon (pick (again_of n)) us)
    → Fails x (ending_of n ts)
unfolding ending_of
ending-fail2 n ts qs e us x s h f = failing x _ _ (λ none. rw (← s, h, none) refl) f

pub ending-ok : (n : Token) (ts qs : List Token) (e : Token) (us : List Token) (a : Option Token) (vs : List Token)
    → qs ≡ skip Semicolon ts → expect EndSequence qs ≡ Some (e, us) → optional Colon (pick (again_of n)) us
    ≡ Some (a, vs) → ending_of n ts ≡ Some vs
unfolding ending_of
ending-ok n ts qs e us a vs s h k = rw (← s, h, k) refl

pub declaration-fail1 : (ts : List Token) (x : Stop) → Fails x (pick name_of ts) → Fails x (declaration_item ts)
unfolding declaration_item
declaration-fail1 ts x f = failing x _ _ (λ none. rw (none) refl) f

pub declaration-fail2 : (ts : List Token) (n : Token) (us : List Token) (x : Stop) → pick name_of ts ≡ Some (n, us)
    → Fails x (expect Semicolon us) → Fails x (declaration_item ts)
unfolding declaration_item
declaration-fail2 ts n us x h1 f = failing x _ _ (λ none. rw (h1, none) refl) f

pub declaration-fail3 : (ts : List Token) (n : Token) (us : List Token) (s : Token) (vs : List Token) (x : Stop)
    → pick name_of ts ≡ Some (n, us) → expect Semicolon us ≡ Some (s, vs) → Fails x (whole most_open vs)
    → Fails x (declaration_item ts)
unfolding declaration_item
declaration-fail3 ts n us s vs x h1 h2 f = failing x _ _ (λ none. rw (h1, h2, none) refl) f

pub declaration-fail4 : (ts : List Token) (n : Token) (us : List Token) (s : Token) (vs : List Token) (b : SequenceForm)
    (ws : List Token) (x : Stop) → pick name_of ts ≡ Some (n, us) → expect Semicolon us ≡ Some (s, vs)
    → whole most_open vs ≡ Some (b, ws) → Fails x (ending_of n ws) → Fails x (declaration_item ts)
unfolding declaration_item
declaration-fail4 ts n us s vs b ws x h1 h2 h3 f = failing x _ _ (λ none. rw (h1, h2, h3, none) refl) f

pub declaration-ok : (ts : List Token) (n : Token) (us : List Token) (s : Token) (vs : List Token) (b : SequenceForm)
    (ws : List Token) (xs : List Token) → pick name_of ts ≡ Some (n, us) → expect Semicolon us ≡ Some (s, vs)
    → whole most_open vs ≡ Some (b, ws) → ending_of n ws ≡ Some xs → declaration_item ts
    ≡ Some (declaration (record { name = n; body = b }), xs)
unfolding declaration_item
declaration-ok ts n us s vs b ws xs h1 h2 h3 h4 = rw (h1, h2, h3, h4) refl

pub opening-fail1 : (ts : List Token) (x : Stop) → Fails x (expect word.Property ts) → Fails x (opening_words ts)
unfolding opening_words
opening-fail1 ts x f = failing x _ _ (λ none. rw (none) refl) f

pub opening-fail2 : (ts : List Token) (p : Token) (us : List Token) (x : Stop) → expect word.Property ts ≡ Some (p, us)
    → Fails x (expect OpenRound us) → Fails x (opening_words ts)
unfolding opening_words
opening-fail2 ts p us x h1 f = failing x _ _ (λ none. rw (h1, none) refl) f

pub opening-ok : (ts : List Token) (p : Token) (us : List Token) (o : Token) (vs : List Token) → expect word.Property ts
    ≡ Some (p, us) → expect OpenRound us ≡ Some (o, vs) → opening_words ts ≡ Some vs
unfolding opening_words
opening-ok ts p us o vs h1 h2 = rw (h1, h2) refl

pub clock-fail1 : (ts : List Token) (x : Stop) → Fails x (expect AtSign ts) → Fails x (clock_words ts)
unfolding clock_words
clock-fail1 ts x f = failing x _ _ (λ none. rw (none) refl) f

pub clock-fail2 : (ts : List Token) (a : Token) (us : List Token) (x : Stop) → expect AtSign ts ≡ Some (a, us)
    → Fails x (expect OpenRound us) → Fails x (clock_words ts)
unfolding clock_words
clock-fail2 ts a us x h1 f = failing x _ _ (λ none. rw (h1, none) refl) f

pub clock-fail3 : (ts : List Token) (a : Token) (us : List Token) (o : Token) (vs : List Token) (x : Stop)
    → expect AtSign ts ≡ Some (a, us) → expect OpenRound us ≡ Some (o, vs) → Fails x (expect Posedge vs)
    → Fails x (clock_words ts)
unfolding clock_words
clock-fail3 ts a us o vs x h1 h2 f = failing x _ _ (λ none. rw (h1, h2, none) refl) f

pub clock-fail4 : (ts : List Token) (a : Token) (us : List Token) (o : Token) (vs : List Token) (p : Token)
    (ws : List Token) (x : Stop) → expect AtSign ts ≡ Some (a, us) → expect OpenRound us ≡ Some (o, vs)
    → expect Posedge vs ≡ Some (p, ws) → Fails x (path_words ws) → Fails x (clock_words ts)
unfolding clock_words
clock-fail4 ts a us o vs p ws x h1 h2 h3 f = failing x _ _ (λ none. rw (h1, h2, h3, none) refl) f

pub clock-fail5 : (ts : List Token) (a : Token) (us : List Token) (o : Token) (vs : List Token) (p : Token)
    (ws : List Token) (q : List Token) (xs : List Token) (x : Stop) → expect AtSign ts ≡ Some (a, us)
    → expect OpenRound us ≡ Some (o, vs) → expect Posedge vs ≡ Some (p, ws) → path_words ws ≡ Some (q, xs)
    → Fails x (expect CloseRound xs) → Fails x (clock_words ts)
unfolding clock_words
clock-fail5 ts a us o vs p ws q xs x h1 h2 h3 h4 f = failing x _ _ (λ none. rw (h1, h2, h3, h4, none) refl) f

pub clock-ok : (ts : List Token) (a : Token) (us : List Token) (o : Token) (vs : List Token) (p : Token)
    (ws : List Token) (q : List Token) (xs : List Token) (c : Token) (ys : List Token)
    → expect AtSign ts ≡ Some (a, us) → expect OpenRound us ≡ Some (o, vs) → expect Posedge vs ≡ Some (p, ws)
    → path_words ws ≡ Some (q, xs) → expect CloseRound xs ≡ Some (c, ys) → clock_words ts ≡ Some (q, ys)
unfolding clock_words
clock-ok ts a us o vs p ws q xs c ys h1 h2 h3 h4 h5 = rw (h1, h2, h3, h4, h5) refl

pub disabling-fail1 : (ts : List Token) (x : Stop) → Fails x (expect Iff ts) → Fails x (disable_reader ts)
unfolding disable_reader
disabling-fail1 ts x f = failing x _ _ (λ none. rw (none) refl) f

pub disabling-fail2 : (ts : List Token) (i : Token) (us : List Token) (x : Stop) → expect Iff ts ≡ Some (i, us)
    → Fails x (one_operand in_two us) → Fails x (disable_reader ts)
unfolding disable_reader
disabling-fail2 ts i us x h f = failing x _ _ (λ none. rw (h, none) refl) f

pub disabling-ok : (ts : List Token) (i : Token) (us : List Token) (e : Tree) (vs : List Token)
    → expect Iff ts ≡ Some (i, us) → one_operand in_two us ≡ Some (e, vs) → disable_reader ts ≡ Some (e, vs)
unfolding disable_reader
disabling-ok ts i us e vs h k = rw (h) k

pub property-end-fail1 : (ts : List Token) (x : Stop) → Fails x (property in_one ts) → Fails x (property_end ts)
unfolding property_end
property-end-fail1 ts x f = failing x _ _ (λ none. rw (none) refl) f

pub property-end-fail2 : (ts : List Token) (p : PropertyForm) (us : List Token) (x : Stop) → property in_one ts
    ≡ Some (p, us) → Fails x (expect CloseRound us) → Fails x (property_end ts)
unfolding property_end
property-end-fail2 ts p us x h1 f = failing x _ _ (λ none. rw (h1, none) refl) f

pub property-end-fail3 : (ts : List Token) (p : PropertyForm) (us : List Token) (c : Token) (vs : List Token) (x : Stop)
    → property in_one ts ≡ Some (p, us) → expect CloseRound us ≡ Some (c, vs) → Fails x (expect Semicolon vs)
    → Fails x (property_end ts)
unfolding property_end
property-end-fail3 ts p us c vs x h1 h2 f = failing x _ _ (λ none. rw (h1, h2, none) refl) f

pub property-end-ok : (ts : List Token) (p : PropertyForm) (us : List Token) (c : Token) (vs : List Token) (s : Token)
    (ws : List Token) → property in_one ts ≡ Some (p, us) → expect CloseRound us ≡ Some (c, vs) → expect Semicolon vs
    ≡ Some (s, ws) → property_end ts ≡ Some (p, ws)
unfolding property_end
property-end-ok ts p us c vs s ws h1 h2 h3 = rw (h1, h2, h3) refl

pub assertion-fail1 : (l : Option Token) (ts : List Token) (x : Stop) → Fails x (lead is_verb_token ts)
    → Fails x (assertion_item l ts)
unfolding assertion_item
assertion-fail1 l ts x f = failing x _ _ (λ none. rw (none) refl) f

pub assertion-fail2 : (l : Option Token) (ts : List Token) (v : Token) (us : List Token) (x : Stop)
    → lead is_verb_token ts ≡ Some (v, us) → Fails x (opening_words us) → Fails x (assertion_item l ts)
unfolding assertion_item
assertion-fail2 l ts v us x h1 f = failing x _ _ (λ none. rw (h1, none) refl) f

pub assertion-fail3 : (l : Option Token) (ts : List Token) (v : Token) (us : List Token) (vs : List Token) (x : Stop)
    → lead is_verb_token ts ≡ Some (v, us) → opening_words us ≡ Some vs → Fails x (clock_words vs)
    → Fails x (assertion_item l ts)
unfolding assertion_item
assertion-fail3 l ts v us vs x h1 h2 f = failing x _ _ (λ none. rw (h1, h2, none) refl) f

pub assertion-fail4 : (l : Option Token) (ts : List Token) (v : Token) (us : List Token) (vs : List Token)
    (q : List Token) (ws : List Token) (x : Stop) → lead is_verb_token ts ≡ Some (v, us) → opening_words us ≡ Some vs
    → clock_words vs ≡ Some (q, ws) → Fails x (optional Disable disable_reader ws) → Fails x (assertion_item l ts)
unfolding assertion_item
assertion-fail4 l ts v us vs q ws x h1 h2 h3 f = failing x _ _ (λ none. rw (h1, h2, h3, none) refl) f

pub assertion-fail5 : (l : Option Token) (ts : List Token) (v : Token) (us : List Token) (vs : List Token)
    (q : List Token) (ws : List Token) (e : Option Tree) (xs : List Token) (x : Stop) → lead is_verb_token ts
    ≡ Some (v, us) → opening_words us ≡ Some vs → clock_words vs ≡ Some (q, ws) → optional Disable disable_reader ws
    ≡ Some (e, xs) → Fails x (property_end xs) → Fails x (assertion_item l ts)
unfolding assertion_item
assertion-fail5 l ts v us vs q ws e xs x h1 h2 h3 h4 f = failing x _ _ (λ none. rw (h1, h2, h3, h4, none) refl) f

pub assertion-ok : (l : Option Token) (ts : List Token) (v : Token) (us : List Token) (vs : List Token) (q : List Token)
    (ws : List Token) (e : Option Tree) (xs : List Token) (p : PropertyForm) (ys : List Token) → lead is_verb_token ts
    ≡ Some (v, us) → opening_words us ≡ Some vs → clock_words vs ≡ Some (q, ws) → optional Disable disable_reader ws
    ≡ Some (e, xs) → property_end xs ≡ Some (p, ys) → assertion_item l ts ≡ Some (assertion_form l v q e p, ys)
unfolding assertion_item
assertion-ok l ts v us vs q ws e xs p ys h1 h2 h3 h4 h5 = rw (h1, h2, h3, h4, h5) refl

pub labelled-tail : (ts : List Token) → lead is_name ts ≡ None → label_reader ts ≡ assertion_item None ts
unfolding label_reader
labelled-tail ts h = rw (h) refl

pub labelled-fail : (ts : List Token) (n : Token) (us : List Token) (x : Stop) → lead is_name ts ≡ Some (n, us)
    → Fails x (expect Colon us) → Fails x (label_reader ts)
unfolding label_reader
labelled-fail ts n us x h f = failing x _ _ (λ none. rw (h, none) refl) f

pub labelled-colon : (ts : List Token) (n : Token) (us : List Token) (c : Token) (vs : List Token)
    → lead is_name ts ≡ Some (n, us) → expect Colon us ≡ Some (c, vs) → label_reader ts ≡ assertion_item (Some n) vs
unfolding label_reader
labelled-colon ts n us c vs h k = rw (h, k) refl

pub declared-no : (ts : List Token) → expect word.Sequence ts ≡ None → declaration_reader ts ≡ label_reader ts
unfolding declaration_reader
declared-no ts h = rw (h) refl

pub declared-yes : (ts : List Token) (w : Token) (us : List Token) → expect word.Sequence ts ≡ Some (w, us)
    → declaration_reader ts ≡ declaration_item us
unfolding declaration_reader
declared-yes ts w us h = rw (h) refl

pub item-declared : (ts : List Token) → expect word.Counter ts ≡ None → item ts ≡ declaration_reader ts
unfolding item
item-declared ts h = rw (h) refl

pub item-label : (ts : List Token) (w : Token) (us : List Token) (c : Token) (vs : List Token) → expect word.Counter ts
    ≡ Some (w, us) → expect Colon us ≡ Some (c, vs) → item ts ≡ declaration_reader ts
unfolding item
item-label ts w us c vs h k = rw (h, k) refl

pub item-counter : (ts : List Token) (w : Token) (us : List Token) → expect word.Counter ts ≡ Some (w, us)
    → expect Colon us ≡ None → item ts ≡ counter_item us
unfolding item
item-counter ts w us h k = rw (h, k) refl

pub more-nil : (ts : List Token) → ts ≡ [] → lead is_more ts ≡ None
unfolding lead
more-nil ts h = rw (h) refl

pub more-end : (ts : List Token) (t : Token) (us : List Token) → ts ≡ t ∷ us → true ≡ is End t → lead is_more ts ≡ None
unfolding lead is_more
more-end ts t us h k = rw (h, ← k) refl

pub more-yes : (ts : List Token) (t : Token) (us : List Token) → ts ≡ t ∷ us → false ≡ is End t
    → lead is_more ts ≡ Some (t, us)
unfolding lead is_more
more-yes ts t us h k = rw (h, ← k) refl

pub ruleset for_again = (again-nil, again-no-word, again-other, again-ok)

pub ruleset for_skip = (skip-no, skip-yes)

pub ruleset for_ending = (ending-fail1, ending-fail2, ending-ok)

pub ruleset for_disabling = (disabling-fail1, disabling-fail2, disabling-ok)

pub ruleset for_labelled = (labelled-tail, labelled-fail, labelled-colon)

pub ruleset for_declared = (declared-no, declared-yes)

pub ruleset for_item = (item-declared, item-label, item-counter)

pub ruleset for_more = (more-nil, more-end, more-yes)
