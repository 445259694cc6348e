use Rattle.std.proofs.Common.{◌≡◌, ◌++◌, ◌∙◌, [], ℕ, suc, List, drop, map, sym, ap, subst, arith, append_assoc}
use Rattle.std.proofs.Common.{append-nil, add-one}
use Rattle.std.proofs.Math.ListN.{drop_of_length-le}
use Rattle.report_explained.specs.declared.failed_attempt.FailedAttempt.{FailedAttempt}
use Rattle.report_forms.specs.Grown.{Grows}
use Rattle.report_forms.specs.Provenances.{provenance_of}
use Rattle.report_gtkwave.specs.Views.{wave_data}
use Rattle.report_gtkwave.specs.Saves.{group_text, groups_text}
use Rattle.report_gtkwave.proofs.RestLaws.{slice-rest, groups-step, groups-none}
use Rattle.report_gtkwave.proofs.groups.push_groups.Goals as goal

pub loop-place-preserved : goal.loop-place-preserved
loop-place-preserved c =
    let p = provenance_of c.args.from.now in
    let ws = map wave_data c.args.waves.now in
    let told = c.args.attempts.now in
    let place = c.loop-place.place in
    let old = c.loop-place.out.items in
    let new = c.push_group.new.out.items in
    let one =
    subst (λ (l : List FailedAttempt). Grows old new (group_text p ws place l)) (slice-rest told place)
    c.in_ok-push_group.ensures in
    let later = groups_text p ws (suc place) (drop (suc place) told) in
    c.loop-place.invariant
    ∙ ap (λ (l : List ℕ). old ++ l) (groups-step p ws place told)
    ∙ sym (append_assoc old (group_text p ws place (drop place told)) later)
    ∙ ap (λ (l : List ℕ). l ++ later) (sym one.is)
    ∙ ap (λ (n : ℕ). new ++ groups_text p ws n (drop n told)) (sym (add-one place))

pub returns : goal.returns
returns c =
    let p = provenance_of c.args.from.now in
    let ws = map wave_data c.args.waves.now in
    let told = c.args.attempts.now in
    let place = c.loop-place.place in
    let new = c.loop-place.out.items in
    let none : drop place told ≡ [] = drop_of_length-le told (omega arith) in
    record {
      is = sym (append-nil new)
          ∙ ap (λ (l : List ℕ). new ++ l)
          (sym (ap (λ (l : List FailedAttempt). groups_text p ws place l) none ∙ groups-none p ws place))
          ∙ sym c.loop-place.invariant;
    }
