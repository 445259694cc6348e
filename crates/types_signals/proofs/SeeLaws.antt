-- What is seen of expressions: widths held at 129, and the least of faults.
use Rattle.std.proofs.Common.{◌≡◌, ℕ, ◌+◌, ◌≤◌, min, ◌++◌, Option, refl, sym, ap, ◌∙◌, arith}
use Rattle.std.specs.Prelude.{nat_le}
use Rattle.std.proofs.lemmas.Bool.Decides.{nat_tests}
use Rattle.lexer.specs.declared.token.Token.{Token}
use Rattle.parser_grammar.specs.declared.operator.Infix.{Infix}
use Rattle.parser_grammar.specs.Trees.{Tree, concatenation, chain, choice, Links, link, Parts, part}
use Rattle.types_names.specs.declared.own.Sought.{Sought}
use Rattle.types_names.specs.declared.own.Sought.TheVariants.{Unknown, Wide, OutOfRange}
use Rattle.types_names.specs.declared.operator.Binary.{Binary}
use Rattle.types_names.specs.declared.operator.Binary.TheVariants.{Arithmetic, Shift, Comparison, Connective}
use Rattle.types_names.specs.Scopes.{Scope}
use Rattle.types_names.specs.Width.{binary_of, binary_width, own_width, chain_width, parts_width}
use Rattle.types_names.specs.Faults.{unless, wide_faults, faults, link_faults, part_faults, earlier, least}
use Rattle.types_names.proofs.FaultLaws.{earlier-assoc, least-append}
use Rattle.types_signals.proofs.WidthLaws.{held-held, binary-held, sum-held, chain-held, parts-held}

le-held : (w : ℕ) → nat_le (min w 129) 128 ≡ nat_le w 128
le-held w = grind (arith, nat_tests)

wide-held : (k : Sought) (at w : ℕ) → wide_faults k at (min w 129) ≡ wide_faults k at w
wide-held Unknown at w = refl
wide-held Wide at w = ap (λ b. unless b at) (le-held w)
wide-held OutOfRange at w = refl

small : (op : Binary) (a b : ℕ) → a ≤ 129 → b ≤ 129 → binary_width op a b ≤ 129
small (Arithmetic op) a b h k = omega arith
small (Shift op) a b h k = h
small (Comparison op) a b h k = omega arith
small (Connective op) a b h k = omega arith

module _ (s : Scope) where
  pub width-concatenation : (x : Tree) (t : Token) (e : Tree) (parts : Parts) (first whole : ℕ)
      → x ≡ concatenation t e parts → first ≡ min (own_width s e) 129 →
      whole ≡ min (parts_width s first parts) 129 → whole ≡ min (own_width s x) 129
  unfolding own_width
  width-concatenation x t e parts first whole is one all =
      let same : min first 129 ≡ min (own_width s e) 129 = ap (λ w. min w 129) one ∙ held-held (own_width s e) in
      all ∙ parts-held s first (own_width s e) parts same ∙ ap (λ y. min (own_width s y) 129) (sym is)

  pub width-chain : (x : Tree) (e : Tree) (links : Links) (first whole : ℕ) → x ≡ chain e links
      → first ≡ min (own_width s e) 129 →
      whole ≡ min (chain_width s first links) 129 → whole ≡ min (own_width s x) 129
  unfolding own_width
  width-chain x e links first whole is one all =
      let same : min first 129 ≡ min (own_width s e) 129 = ap (λ w. min w 129) one ∙ held-held (own_width s e) in
      all ∙ chain-held s first (own_width s e) links same ∙ ap (λ y. min (own_width s y) 129) (sym is)

  module _ (k : Sought) where
    pub fault-concatenation : (x : Tree) (t : Token) (e : Tree) (parts : Parts) (whole : ℕ)
        (wide first more all : Option ℕ) → x ≡ concatenation t e parts → whole ≡ min (own_width s x) 129 →
        wide ≡ least (wide_faults k t.at whole) → first ≡ least (faults s k e)
        → more ≡ earlier first (least (part_faults s k parts)) → all ≡ earlier wide more
        → all ≡ least (faults s k x)
    unfolding own_width faults
    fault-concatenation x t e parts whole wide first more all is held w one rest last =
        let width : whole ≡ min (parts_width s (own_width s e) parts) 129 =
        held ∙ ap (λ y. min (own_width s y) 129) is in
        let v : wide ≡ least (wide_faults k t.at (parts_width s (own_width s e) parts)) =
        w ∙ ap (λ n. least (wide_faults k t.at n)) width
        ∙ ap least (wide-held k t.at (parts_width s (own_width s e) parts)) in
        let inner : more ≡ least (faults s k e ++ part_faults s k parts) =
        rest ∙ ap (λ o. earlier o (least (part_faults s k parts))) one
        ∙ sym (least-append (faults s k e) (part_faults s k parts)) in
        last ∙ ap (λ o. earlier o more) v
        ∙ ap (earlier (least (wide_faults k t.at (parts_width s (own_width s e) parts)))) inner
        ∙ sym (least-append (wide_faults k t.at (parts_width s (own_width s e) parts))
        (faults s k e ++ part_faults s k parts))
        ∙ ap (λ y. least (faults s k y)) (sym is)

    pub fault-chain : (x : Tree) (e : Tree) (links : Links) (first all : Option ℕ) → x ≡ chain e links
        → first ≡ least (faults s k e) → all ≡ earlier first (least (link_faults s k links))
        → all ≡ least (faults s k x)
    unfolding faults
    fault-chain x e links first all is one last =
        last ∙ ap (λ o. earlier o (least (link_faults s k links))) one
        ∙ sym (least-append (faults s k e) (link_faults s k links)) ∙ ap (λ y. least (faults s k y)) (sym is)

    pub fault-choice : (x c a b : Tree) (first second third inner all : Option ℕ) → x ≡ choice c a b
        → first ≡ least (faults s k c) → second ≡ least (faults s k a) → third ≡ least (faults s k b) →
        inner ≡ earlier second third → all ≡ earlier first inner → all ≡ least (faults s k x)
    unfolding faults
    fault-choice x c a b first second third inner all is one two three four five =
        let arms : inner ≡ least (faults s k a ++ faults s k b) =
        four ∙ ap (λ o. earlier o third) two ∙ ap (earlier (least (faults s k a))) three
        ∙ sym (least-append (faults s k a) (faults s k b)) in
        five ∙ ap (λ o. earlier o inner) one ∙ ap (earlier (least (faults s k c))) arms
        ∙ sym (least-append (faults s k c) (faults s k a ++ faults s k b))
        ∙ ap (λ y. least (faults s k y)) (sym is)

    -- one more operand of a loop
    pub link-step : (op : Infix) (e : Tree) (rest now : Links) (w v next total : ℕ) → now ≡ link op e rest
        → v ≡ min (own_width s e) 129 → next ≡ binary_width (binary_of op) w v →
        min (chain_width s w now) 129 ≡ total → min (chain_width s next rest) 129 ≡ total
    unfolding own_width
    link-step op e rest now w v next total is one step h =
        let same : min v 129 ≡ min (own_width s e) 129 = ap (λ n. min n 129) one ∙ held-held (own_width s e) in
        let held : min next 129 ≡ min (binary_width (binary_of op) w (own_width s e)) 129 =
        ap (λ n. min n 129) step ∙ binary-held (binary_of op) w v w (own_width s e) refl same in
        chain-held s next (binary_width (binary_of op) w (own_width s e)) rest held
        ∙ ap (λ ls. min (chain_width s w ls) 129) (sym is) ∙ h

    pub part-step : (e : Tree) (rest now : Parts) (w v next total : ℕ) → now ≡ part e rest → v ≡ min (own_width s e) 129
        → next ≡ min (w + v) 129 →
        min (parts_width s w now) 129 ≡ total → min (parts_width s next rest) 129 ≡ total
    unfolding own_width
    part-step e rest now w v next total is one step h =
        let same : min v 129 ≡ min (own_width s e) 129 = ap (λ n. min n 129) one ∙ held-held (own_width s e) in
        let held : min next 129 ≡ min (w + own_width s e) 129 =
        ap (λ n. min n 129) step ∙ held-held (w + v) ∙ sum-held w v w (own_width s e) refl same in
        parts-held s next (w + own_width s e) rest held ∙ ap (λ ps. min (parts_width s w ps) 129) (sym is) ∙ h

    pub link-fault-step : (op : Infix) (e : Tree) (rest now : Links) (f g next total : Option ℕ) → now ≡ link op e rest
        → g ≡ least (faults s k e) → next ≡ earlier f g →
        earlier f (least (link_faults s k now)) ≡ total → earlier next (least (link_faults s k rest)) ≡ total
    unfolding faults
    link-fault-step op e rest now f g next total is one step h =
        ap (λ o. earlier o (least (link_faults s k rest))) (step ∙ ap (earlier f) one)
        ∙ earlier-assoc f (least (faults s k e)) (least (link_faults s k rest))
        ∙ ap (earlier f) (sym (least-append (faults s k e) (link_faults s k rest)))
        ∙ ap (λ ls. earlier f (least (link_faults s k ls))) (sym is) ∙ h

    pub part-fault-step : (e : Tree) (rest now : Parts) (f g next total : Option ℕ) → now ≡ part e rest
        → g ≡ least (faults s k e) → next ≡ earlier f g →
        earlier f (least (part_faults s k now)) ≡ total → earlier next (least (part_faults s k rest)) ≡ total
    unfolding faults
    part-fault-step e rest now f g next total is one step h =
        ap (λ o. earlier o (least (part_faults s k rest))) (step ∙ ap (earlier f) one)
        ∙ earlier-assoc f (least (faults s k e)) (least (part_faults s k rest))
        ∙ ap (earlier f) (sym (least-append (faults s k e) (part_faults s k rest)))
        ∙ ap (λ ps. earlier f (least (part_faults s k ps))) (sym is) ∙ h

  pub small-step : (op : Binary) (w v e next : ℕ) → w ≤ 129 → v ≡ min e 129 → next ≡ binary_width op w v → next ≤ 129
  small-step op w v e next h one step = let k : binary_width op w v ≤ 129 = small op w v h (omega arith) in omega arith
