-- The number of an option, as it was read.
use Rattle.std.proofs.Common.{◌≡◌, ℕ, ◌≤◌, List, Option, Some, None, Ok, refl, sym}
use Rattle.std.proofs.lemmas.Option.{none-some}
use Rattle.std.specs.Str.Parse.{ParsesUnsigned}
use Rattle.clap.specs.Words.{Row, Text, one_of}
use Rattle.cli_words.specs.Words.{IsNumber, GivesNumber}

pub number_read : (name : Text) (limit : ℕ) (o : Option Text) (rows : List Row) (number : ℕ) → one_of name rows ≡ o
    → (o ≡ None → Some number ≡ None)
    → ((t : Text) → o ≡ Some t → ParsesUnsigned {E = Unit {0}} 64 10 t (Ok number))
    → 1 ≤ number → number ≤ limit → IsNumber name limit rows number
number_read name limit None rows number e none some least most = absurd (none-some _ (sym (none refl)))
number_read name limit (Some t) rows number e none some least most =
    record { text = t; given = e; digits = some t refl; least = least; most = most }

pub number_given : (name : Text) (o : Option Text) (rows : List Row) (number : ℕ) → one_of name rows ≡ o
    → (o ≡ None → Some number ≡ None)
    → ((t : Text) → o ≡ Some t → ParsesUnsigned {E = Unit {0}} 64 10 t (Ok number))
    → GivesNumber name rows (Some number)
number_given name None rows number e none some = absurd (none-some _ (sym (none refl)))
number_given name (Some t) rows number e none some = (t, e, some t refl)
