-- What is read up to the end is a file; and a file is read so.
use Rattle.std.proofs.Common.{◌≡◌, Bool, true, false, ◌||◌, List, [], ◌∷◌, ◌++◌, Option, Some, None, refl, sym, ap, ap₂}
use Rattle.std.proofs.Common.{◌∙◌, subst, map}
use Rattle.lexer.specs.declared.token.Token.{Token}
use Rattle.parser_grammar.specs.declared.terminal.Terminal.TheVariants.{End}
use Rattle.parser_grammar.specs.Terminals.{terminal, is}
use Rattle.parser_grammar.specs.Trees.{ItemForm, counter, declaration, assertion}
use Rattle.parser_grammar.specs.Files.{IsFile}
use Rattle.parser_grammar.specs.Readers.{each}
use Rattle.parser_grammar.specs.ReadFiles.{asserts, is_more, item, items, ReadsFile}
use Rattle.parser_grammar.proofs.TerminalLaws.{is-true, is-false}
use Rattle.parser_grammar.proofs.FilesComplete.{file-read}
use Rattle.parser_grammar.proofs.FilesSound.{file-found}
use Rattle.parser.specs.declared.fault.ParseFault.{ParseFault}
use Rattle.parser.specs.declared.stop.Stop.{Stop}
use Rattle.parser.specs.declared.stop.Stop.TheVariants as stops
use Rattle.parser_grammar.specs.declared.item.ItemTree.{ItemTree}
use Rattle.parser_grammar.specs.Views.{item_of}
use Rattle.parser.proofs.LoopLaws.{map-push}
use Rattle.parser.specs.Faults.{NamesStop, Refuses, IsParseFault}
use Rattle.parser.specs.Views.{Fails}

-- a stop that is no want of memory, and the fault that names it
pub refuses : {A : Type 0} (stop : Stop) (fault : ParseFault) (o : Option A) → Fails stop o → NamesStop stop fault
    → Refuses fault o
refuses stops.Memory fault o f n some = absurd (some n)
refuses (stops.Expected what at) fault o f n some = f
refuses (stops.TooDeep at) fault o f n some = f
refuses (stops.BadBound at) fault o f n some = f

-- the reader of the items at a token and those after it
pub at-item-fails : (ts : List Token) (t : Token) (us : List Token) (x : Stop) → ts ≡ t ∷ us → Fails x (item ts)
    → Fails x (item (t ∷ us))
at-item-fails ts t us x e f = subst (λ (vs : List Token). Fails x (item vs)) e f

pub at-item : (ts : List Token) (t : Token) (us : List Token) (o : Option (ItemForm × List Token)) → ts ≡ t ∷ us
    → item ts ≡ o → item (t ∷ us) ≡ o
at-item ts t us o e h = ap item (sym e) ∙ h

pub items-are : (ts : List Token) (o : Option (List ItemForm × List Token)) → each is_more (λ t us. item (t ∷ us)) ts
    ≡ o → items ts ≡ o
unfolding items
items-are ts o h = h

pub items-fail : (ts : List Token) (x : Stop) → Fails x (each is_more (λ t us. item (t ∷ us)) ts) → Fails x (items ts)
unfolding items
items-fail ts x f = f

asserts-push :
    (xs : List ItemForm) (x : ItemForm) →
    asserts (xs ++ x ∷ []) ≡ (asserts xs || asserts (x ∷ []))
asserts-push [] x = refl
asserts-push (counter c ∷ xs) x = asserts-push xs x
asserts-push (declaration s ∷ xs) x = asserts-push xs x
asserts-push (assertion a ∷ xs) x = refl

-- one more item after those that were found
pub asserts-more :
    (xs ys : List ItemTree) (x : ItemTree) (a b : Bool) →
    ys ≡ xs ++ x ∷ [] → a ≡ asserts (map item_of xs) → b ≡ asserts (item_of x ∷ []) →
    (a || b) ≡ asserts (map item_of ys)
asserts-more xs ys x a b e h k =
    let more : map item_of ys ≡ map item_of xs ++ item_of x ∷ [] =
    ap (map item_of) e ∙ map-push item_of xs x in
    ap₂ (λ p q. p || q) h k ∙ sym (ap asserts more ∙ asserts-push (map item_of xs) (item_of x))

left-same : (p q : List ItemForm × List Token) → Some p ≡ Some q → p.1 ≡ q.1
left-same p q h = let same : p ≡ q = cc in ap (λ (r : List ItemForm × List Token). r.1) same

items-same : (p q : List ItemForm × List Token) → Some p ≡ Some q → p.0 ≡ q.0
items-same p q h = let same : p ≡ q = cc in ap (λ (r : List ItemForm × List Token). r.0) same

module _ (tokens : List Token) (xs : List ItemForm) (us : List Token) (h : items tokens ≡ Some (xs, us)) where
  same-end : (ys : List ItemForm) (f : ReadsFile ys tokens) → us ≡ f.last ∷ []
  same-end ys f = left-same (xs, us) (ys, f.last ∷ []) (sym h ∙ f.read)

  same-items : (ys : List ItemForm) (f : ReadsFile ys tokens) → xs ≡ ys
  same-items ys f = items-same (xs, us) (ys, f.last ∷ []) (sym h ∙ f.read)

  pub no-end : (fault : ParseFault) → us ≡ [] → IsParseFault tokens fault
  no-end fault e some ys is_file = let f = file-read ys tokens is_file in let z = sym e ∙ same-end ys f in absurd cc

  module _ (t : Token) (vs : List Token) (e : us ≡ t ∷ vs) where
    pub other-end : (fault : ParseFault) → false ≡ is End t → IsParseFault tokens fault
    other-end fault other some ys is_file =
        let f = file-read ys tokens is_file in
        let z : t ∷ vs ≡ f.last ∷ [] = sym e ∙ same-end ys f in
        let same : t ≡ f.last = cc in
        is-false End t (sym other) (ap terminal same ∙ f.ends)

    pub behind-end : (fault : ParseFault) → (vs ≡ [] → ⊥) → IsParseFault tokens fault
    behind-end fault some-more some ys is_file =
        let f = file-read ys tokens is_file in
        let z : t ∷ vs ≡ f.last ∷ [] = sym e ∙ same-end ys f in
        some-more cc

    pub found : true ≡ is End t → vs ≡ [] → true ≡ asserts xs → IsFile xs tokens
    found ends none asserted =
        file-found xs tokens t
        (h ∙ ap (λ (ws : List Token). Some (xs, ws)) (e ∙ ap (λ (ws : List Token). t ∷ ws) none))
        (is-true End t (sym ends)) (sym asserted)

  pub no-assertion : (fault : ParseFault) → false ≡ asserts xs → IsParseFault tokens fault
  no-assertion fault lacks some ys is_file =
      let f = file-read ys tokens is_file in
      let z : asserts xs ≡ true = ap asserts (same-items ys f) ∙ f.asserted in
      absurd cc

clash : {A : Type 0} (o : Option A) (p : A) → o ≡ None → o ≡ Some p → ⊥
clash o p h k = absurd cc

pub nothing-read : (tokens : List Token) (fault : ParseFault) → Refuses fault (items tokens) → IsParseFault tokens fault
nothing-read tokens fault refused some ys is_file =
    let f = file-read ys tokens is_file in clash (items tokens) (ys, f.last ∷ []) (refused some) f.read
