-- Values of the fields that begin with a key.
use Rattle.std.proofs.Common.{◌≡◌, ℕ, ◌+◌, ◌<◌, true, false, List, [], ◌∷◌, ◌++◌, length, get_or, drop, map, Option}
use Rattle.std.proofs.Common.{Some, None, Bor, eqb, refl}
use Rattle.std.specs.Option.{option_map, option_to_list, is_some}
use Rattle.std.specs.List.{cons_option, starts_with}
use Rattle.std.specs.Str.Pattern.{FindsTextPrefix, StripsPrefix}
use Rattle.std.proofs.lemmas.Str.Pattern.{starts_text}
use Rattle.std.proofs.lemmas.Bool.{true≢false, false≢true}
use Rattle.axi4_rules.specs.Lines.{value_in, values, at_most_one}
use Rattle.axi4_rules.proofs.ListLaws.{drop-next}

pub lacks : (key field : List ℕ) → FindsTextPrefix key field None → value_in key field ≡ None
lacks key field h = rw (← starts_text false key field h) refl

pub strips : (key field value : List ℕ) → StripsPrefix (FindsTextPrefix key) field value → value_in key field
    ≡ Some value
strips key field value h =
    let begins : true ≡ starts_with eqb field key = starts_text true key field (h.0, h.1, rw (h.1.0) (h.1.2)) in
    rw (← begins, h.2, h.1.0) refl

pub values-next : (key : List ℕ) (fs : List (Bor (List ℕ))) (i : ℕ) (d : Bor (List ℕ)) (o : Option (List ℕ))
    → i < length fs → value_in key (get_or fs i d).now ≡ o → values key (map (λ f. f.now) (drop i fs))
    ≡ cons_option o (values key (map (λ f. f.now) (drop (i + 1) fs)))
values-next key fs i d o below h = rw (drop-next fs i d below, h) refl

pub first_value : (found : Option (Bor (List ℕ))) (all rest : List (List ℕ)) (x : List ℕ) → is_some found ≡ false
    → all ≡ option_to_list (option_map (λ t. t.now) found) ++ x ∷ rest → all ≡ x ∷ rest
first_value None all rest x none h = h
first_value (Some y) all rest x none h = absurd (true≢false none)

pub second_value : (found : Option (Bor (List ℕ))) (all rest : List (List ℕ)) (x : List ℕ) → is_some found ≡ true
    → all ≡ option_to_list (option_map (λ t. t.now) found) ++ x ∷ rest → at_most_one all ≡ None
second_value None all rest x some h = absurd (false≢true some)
second_value (Some y) all rest x some h = rw h refl

pub all_values : (found : Option (Bor (List ℕ))) (all : List (List ℕ))
    → all ≡ option_to_list (option_map (λ t. t.now) found) ++ [] → Some (option_map (λ t. t.now) found)
    ≡ at_most_one all
all_values None all h = rw h refl
all_values (Some y) all h = rw h refl
