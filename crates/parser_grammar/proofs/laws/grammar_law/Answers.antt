use Rattle.std.proofs.Common.{◌≡◌, ℕ, ◌<◌, List, [], ◌∷◌, Option, Some, sym, ap, ◌∙◌}
use Rattle.lexer.specs.declared.token.Token.{Token}
use Rattle.parser_grammar.specs.Marks.{next_precedence}
use Rattle.parser_grammar.specs.Trees.{Tree, ItemForm}
use Rattle.parser_grammar.specs.Expressions.{Spells}
use Rattle.parser_grammar.specs.ReadExpressions.{expression}
use Rattle.parser_grammar.specs.ReadFiles.{items, ReadsFile}
use Rattle.parser_grammar.proofs.Complete.{spells-read}
use Rattle.parser_grammar.proofs.Sound.{spells-sound, is_sound}
use Rattle.parser_grammar.proofs.PropertyLaws.{whole-read, whole-sound, property-read, property-sound}
use Rattle.parser_grammar.proofs.FilesComplete.{file-read}
use Rattle.parser_grammar.proofs.FilesSound.{file-found}
use Rattle.parser_grammar.proofs.laws.grammar_law.Goals as goal

-- what was read is one thing
same-read : {A : Type 0} (o : Option (A × List Token)) (a b : A) (us vs : List Token) → o ≡ Some (a, us)
    → o ≡ Some (b, vs) → a ≡ b
same-read {A = A} o a b us vs h k =
    let e : Some (a, us) ≡ Some (b, vs) = sym h ∙ k in
    let same : (a, us) ≡ (b, vs) = cc (e) in
    ap (λ (p : A × List Token). p.0) same

one-file : (xs ys : List ItemForm) (tokens : List Token) → ReadsFile xs tokens → ReadsFile ys tokens → xs ≡ ys
one-file xs ys tokens a b = same-read (items tokens) xs ys (a.last ∷ []) (b.last ∷ []) a.read b.read

expression-read : (d : ℕ) (e : Tree) (ts rest : List Token) → 10 < next_precedence rest → Spells d e ts rest
    → expression d ts ≡ Some (e, rest)
unfolding expression
expression-read d e ts rest le s = spells-read s le

expression-sound : (d : ℕ) (e : Tree) (ts rest : List Token) → expression d ts ≡ Some (e, rest) → Spells d e ts rest
unfolding expression
expression-sound d e ts rest h = spells-sound d (is_sound d) ts (e, rest) h

pub returns-clause-spelled_file : goal.returns-clause-spelled_file
returns-clause-spelled_file c = file-read

pub returns-clause-read_file : goal.returns-clause-read_file
returns-clause-read_file c = λ xs tokens r. file-found xs tokens r.last r.read r.ends r.asserted

pub returns-clause-one_file : goal.returns-clause-one_file
returns-clause-one_file c = λ xs ys tokens f g. one-file xs ys tokens (file-read xs tokens f) (file-read ys tokens g)

pub returns-clause-spelled_expression : goal.returns-clause-spelled_expression
returns-clause-spelled_expression c = expression-read

pub returns-clause-read_expression : goal.returns-clause-read_expression
returns-clause-read_expression c = expression-sound

pub returns-clause-one_expression : goal.returns-clause-one_expression
returns-clause-one_expression c =
    λ d e f ts rest le s t. same-read (expression d ts) e f rest rest (expression-read d e ts rest le s)
    (expression-read d f ts rest le t)

pub returns-clause-spelled_sequence : goal.returns-clause-spelled_sequence
returns-clause-spelled_sequence c = λ d s ts rest le w. whole-read w le

pub returns-clause-read_sequence : goal.returns-clause-read_sequence
returns-clause-read_sequence c = λ d s ts rest h. whole-sound d ts (s, rest) h

pub returns-clause-spelled_property : goal.returns-clause-spelled_property
returns-clause-spelled_property c = λ d p ts rest le w. property-read w le

pub returns-clause-read_property : goal.returns-clause-read_property
returns-clause-read_property c = λ d p ts rest h. property-sound d ts (p, rest) h
