-- What is known of a refusal that may be there.
use Rattle.std.proofs.Common.{◌≡◌, ◌∙◌, ℕ, List, Option, Some, None}
use Rattle.std.proofs.Common.{Result, Ok, Err, map, refl, sym, ap}
use Rattle.std.specs.Prelude.{IfOk, IfSome, MatchOption, unwrap_or, option_map, slice_get}
use Rattle.std.proofs.lemmas.Option.{slice_get-map}
use Rattle.lint_notes.specs.declared.head.Head.{Head}
use Rattle.lint_notes.specs.Idle.{HeadData, data_of}
use Rattle.std.specs.declared.alloc.AllocError.{AllocError}
use Rattle.diagnostics.specs.declared.front.Refusal.{Refusal}

-- the byte of an assertion, by the heads of a file
twice : (o : Option Head)
    → option_map (λ (d : HeadData). d.0) (option_map data_of o) ≡ option_map (λ (h : Head). h.at) o
twice None = refl
twice (Some h) = refl

pub head-byte : (hs : List Head) (forms : List HeadData) (place : ℕ) → map data_of hs ≡ forms
    → unwrap_or (option_map (λ (h : Head). h.at) (slice_get hs place)) 0
    ≡ unwrap_or (slice_get (map (λ (d : HeadData). d.0) forms) place) 0
head-byte hs forms place same =
    ap (λ (o : Option ℕ). unwrap_or o 0)
    (sym (slice_get-map (λ (d : HeadData). d.0) forms place
    ∙ ap (λ (fs : List HeadData). option_map (λ (d : HeadData). d.0) (slice_get fs place)) (sym same)
    ∙ ap (λ (o : Option HeadData). option_map (λ (d : HeadData). d.0) o) (slice_get-map data_of hs place)
    ∙ twice (slice_get hs place)))

-- what is known of each refusal, and where there is none
pub other_known : (A B : Type 0) (P Q : Refusal → Type 0) (r : Result (Option Refusal) AllocError) → (A → B)
    → ((x : Refusal) → P x → Q x) → IfOk r (λ (o : Option Refusal). MatchOption o A P)
    → IfOk r (λ (o : Option Refusal). MatchOption o B Q)
other_known A B P Q (Ok None) f g h = f h
other_known A B P Q (Ok (Some x)) f g h = g x h
other_known A B P Q (Err e) f g h = h

-- where there is none, less is known
pub less_known : (A B : Type 0) (P : Refusal → Type 0) (r : Result (Option Refusal) AllocError) → (A → B)
    → IfOk r (λ (o : Option Refusal). MatchOption o A P) → IfOk r (λ (o : Option Refusal). MatchOption o B P)
less_known A B P (Ok None) f h = f h
less_known A B P (Ok (Some x)) f h = h
less_known A B P (Err e) f h = h

-- more is known of each refusal
pub some_known : (P Q : Refusal → Type 0) (o : Option Refusal) → ((x : Refusal) → P x → Q x) → IfSome o P
    → IfSome o Q
some_known P Q None f h = h
some_known P Q (Some x) f h = f x h

pub told_known : (P Q : Refusal → Type 0) (r : Result (Option Refusal) AllocError) → ((x : Refusal) → P x → Q x)
    → IfOk r (λ (o : Option Refusal). IfSome o P) → IfOk r (λ (o : Option Refusal). IfSome o Q)
told_known P Q (Ok o) f h = some_known P Q o f h
told_known P Q (Err e) f h = h
