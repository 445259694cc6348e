-- The subcommand that words name.
use Rattle.std.proofs.Common.{◌≡◌, ◌∙◌, refl, sym, ap, ap₂, Bool, true, false, not, List, Option, Some, None}
use Rattle.std.proofs.Common.{option_map, [], ◌∷◌, ◌++◌, ◌&&◌, arith, length, length-append, inl, inr}
use Rattle.std.proofs.lemmas.Bool.Decides.{eqb_tells}
use Rattle.std.specs.Prelude.{unwrap_or}
use Rattle.std.specs.Borrow.{Bor}
use Rattle.std.proofs.lemmas.Option.{none-some}
use Rattle.clap.proofs.WalkLemmas.{both}
use Rattle.clap.specs.Words.{AddsArg, AddsConflicts, AddsRequirements, AddsRequiredUnless, AddsSubcommand, App}
use Rattle.clap.specs.Words.{HasMatchesOf, Row, Rule, Text}
use Rattle.clap.specs.Words.{app_of, is_simple, rule_of}
use Rattle.clap.specs.Words.{subcommand_of, subcommand_name_of, subcommand_rows_of, with_rule, with_subcommand}
use Rattle.clap.specs.Walk.{is_empty, is_free_arg}
use Rattle.clap.specs.declared.builder.arg.Arg.{Arg}
use Rattle.clap.specs.declared.builder.arg.ArgPredicate.{ArgPredicate}
use Rattle.clap.specs.declared.builder.command.Command.{Command}
use Rattle.clap.specs.declared.parser.matches.ArgMatches.{ArgMatches}
use Rattle.cli_words.specs.declared.request.Request.{Request}
use Rattle.cli_words.specs.declared.row.OptionRow.{OptionRow}
use Rattle.cli_words.specs.Rows.{row_rule, with_rows}
use Rattle.cli_words.specs.Words.{IsRequest, IsNamed, IsAsked, svamon_app, tied}

pub not-is : (b : Bool) → not b ≡ true → b ≡ false
not-is b h = elim b as (λ v. not v ≡ true → v ≡ false) [ true ↦ λ k. sym k | false ↦ λ k. sym (ap not k) ] h

-- a command of one more subcommand, which has no settings of its own
pub one_more : (old sub new : Command) (a s : App) → AddsSubcommand old sub new → app_of old ≡ a → app_of sub ≡ s
    → s.top.is_plain ≡ true → app_of new ≡ with_subcommand a s.top
one_more old sub new a s adds before is plain =
    let sub_plain : (app_of sub).top.is_plain ≡ true = ap (λ (x : App). x.top.is_plain) is ∙ plain in
    adds.shape (not-is _ (both _ _ (both _ _ (both _ _ sub_plain).1).1).0)
    ∙ ap₂ with_subcommand before (ap (λ (x : App). x.top) is)

-- a command of one more option, which is its own
pub one_option : (old new : Command) (o : Arg) (a : App) (r : Rule) → AddsArg old o new → app_of old ≡ a → rule_of o ≡ r
    → o.global ≡ false → app_of new ≡ with_rule a r
one_option old new o a r adds before is local = adds.shape local ∙ ap₂ with_rule before is

-- the options of rows leave a command plain
pub stays_plain : (rows : List OptionRow) (a : App) → a.top.is_plain ≡ true → (with_rows a rows).top.is_plain ≡ true
stays_plain [] a plain = plain
stays_plain (row ∷ rows) a plain = stays_plain rows (with_rule a (row_rule row)) plain

-- a list with more is not empty
more_is_there : (xs : List (Bor Text)) (x : Bor Text) (more : List (Bor Text)) → is_empty (xs ++ x ∷ more) ≡ false
more_is_there xs x more =
    elim (eqb_tells (length (xs ++ x ∷ more)) 0) [
      | inl p ↦ absurd (omega (arith, p.1, length-append xs (x ∷ more)))
      | inr q ↦ q.0
    ]

never : (b x : Bool) → x ≡ false → (b && x) ≡ false
never true x e = e
never false x e = refl

-- an option that is required unless others are there
pub unless_one : (old new : Arg) (first : Bor Text) (more : List (Bor Text)) → AddsRequiredUnless old new (first ∷ more)
    → rule_of new ≡ tied (rule_of old)
unless_one old new first more adds =
    let some : is_empty new.r_unless.items ≡ false =
    ap (λ (xs : List (Bor Text)). is_empty xs) adds.1 ∙ more_is_there old.r_unless.items first more in
    let bound : is_free_arg (record old { r_unless = new.r_unless }) ≡ false =
    never (not old.exclusive) _
    (never (is_empty old.conflicts.items) _
    (never (is_empty old.needs.items) _
    (never (is_empty old.r_ifs.items) _
    (never (is_empty old.r_ifs_all.items) _
    (ap (λ (b : Bool). b && is_empty old.r_unless_all.items) some))))) in
    ap (λ (a : Arg). rule_of a) adds.0 ∙ ap (λ (b : Bool). record (rule_of old) { is_free = b }) bound

-- it stays an option of its own command
pub unless_local : (old new : Arg) (others : List (Bor Text)) → AddsRequiredUnless old new others
    → old.global ≡ false → new.global ≡ false
unless_local old new others adds before = ap (λ (a : Arg). a.global) adds.0 ∙ before

-- an option that can't stand beside others
pub tied_by_others : (old new : Arg) (first : Bor Text) (more : List (Bor Text)) → AddsConflicts old new (first ∷ more)
    → rule_of new ≡ tied (rule_of old)
tied_by_others old new first more adds =
    let some : is_empty new.conflicts.items ≡ false =
    ap (λ (xs : List (Bor Text)). is_empty xs) adds.1 ∙ more_is_there old.conflicts.items first more in
    let rest : Bool =
    is_empty old.needs.items && (is_empty old.r_ifs.items && (is_empty old.r_ifs_all.items
    && (is_empty old.r_unless.items && is_empty old.r_unless_all.items))) in
    let bound : is_free_arg (record old { conflicts = new.conflicts }) ≡ false =
    never (not old.exclusive) _ (ap (λ (b : Bool). b && rest) some) in
    ap (λ (a : Arg). rule_of a) adds.0 ∙ ap (λ (b : Bool). record (rule_of old) { is_free = b }) bound

-- one that wants another
pub tied_by_a_want : (old new : Arg) (wants : List (ArgPredicate × Bor Text)) → AddsRequirements old new wants
    → tied (rule_of new) ≡ tied (rule_of old)
tied_by_a_want old new wants adds = ap (λ (a : Arg). tied (rule_of a)) adds.0

-- they stay options of their own command
pub local_by_others : (old new : Arg) (others : List (Bor Text)) → AddsConflicts old new others
    → old.global ≡ false → new.global ≡ false
local_by_others old new others adds before = ap (λ (a : Arg). a.global) adds.0 ∙ before

pub local_by_a_want : (old new : Arg) (wants : List (ArgPredicate × Bor Text)) → AddsRequirements old new wants
    → old.global ≡ false → new.global ≡ false
local_by_a_want old new wants adds before = ap (λ (a : Arg). a.global) adds.0 ∙ before

map_map : {A B C : Type 0} (f : A → B) (g : B → C) (o : Option A) → option_map g (option_map f o)
    ≡ option_map (λ a. g (f a)) o
map_map f g None = refl
map_map f g (Some a) = refl

pair_of : (o : Option (Text × List Row)) (n : Text) (rs : List Row)
    → option_map (λ p. p.0) o ≡ Some n → option_map (λ p. p.1) o ≡ Some rs → o ≡ Some (n, rs)
pair_of None n rs e f = absurd (none-some _ e)
pair_of (Some p) n rs e f =
    ap₂ (λ (a : Text) (b : List Row). Some (a, b)) (ap (λ (o : Option Text). unwrap_or o n) e)
    (ap (λ (o : Option (List Row)). unwrap_or o rs) f)

-- the words ask for the request that the rows of the entered command give
pub asked : (a : App) (words : List Text) (m : ArgMatches) (r : Request) → HasMatchesOf a words m → a ≡ svamon_app
    → IsNamed m r → IsAsked words r
asked a words m r has is named = record {
  rows = named.rows;
  named = ap (λ (b : App). subcommand_of b words) (sym is) ∙ sym (has (ap is_simple is)).1 ∙ named.entered;
  given = named.given;
}

-- the request of the command that was entered, by its rows
pub entered : (m : ArgMatches) (n : Text) (rs : List Row) → subcommand_name_of m ≡ Some n
    → option_map (λ p. p.1) (subcommand_rows_of m) ≡ Some rs → (r : Request) → IsRequest n rs r → IsNamed m r
entered m n rs name rows r said = record {
  rows = rs;
  entered =
      pair_of (subcommand_rows_of m) n rs (map_map _ _ _ ∙ name) rows
      ∙ ap (λ (t : Text). Some (t, rs)) (sym said.command);
  given = said.given;
}

-- a request of a command is one of the command of the same name
pub of_name : {n m : Text} → n ≡ m → {rs : List Row} → (r : Request) → IsRequest m rs r → IsRequest n rs r
of_name e r said = record { command = said.command ∙ sym e; given = said.given }
