use Rattle.std.proofs.Common.{◌≡◌, ◌∙◌, ℕ, List, ap, sym, length, take, arith, refl, ◌++◌, ◌∷◌, [], Some, ◌<◌, ◌^◌}
use Rattle.std.proofs.lemmas.List.{length-map, length-take}
use Rattle.vcd_reader.specs.Variables.{place_of}
use Rattle.vcd_reader.specs.Keys.{key_of}
use Rattle.vcd_reader.specs.Variables.{path_of}
use Rattle.vcd_reader.specs.Scopes.{open_scopes}
use Rattle.vcd_reader.specs.Index.{place_in, text_in, texts_in}
use Rattle.vcd_reader.proofs.PlaceLaws.{text-parts, place-known, place-fresh, texts-more, index-more}
use Rattle.vcd_reader.proofs.places.places_of.Goals as goal
use Rattle.vcd_reader.proofs.places.places_of.Goals.{in-None, in-Some}

pub loop-i-preserved : goal.loop-i-preserved
loop-i-preserved c =
    let vs = c.args.variables.now in
    let ss = c.args.scopes.now in
    let ts = texts_in c.args.part ss (take c.loop-i.i vs) in
    let v = c.index-variables-i.result in
    let t = text_in c.args.part ss v in
    let text : path_of (open_scopes ss c.place_of_part-scope.result) c.own_part-own.result.now ≡ t =
    ap (λ (n : ℕ). path_of (open_scopes ss n) c.own_part-own.result.now) c.place_of_part-scope.ensures
    ∙ ap (λ (xs : List ℕ). path_of (open_scopes ss (place_in c.args.part v)) xs) c.own_part-own.ensures
    ∙ text-parts c.args.part ss v in
    let lt : c.loop-i.i < length vs = omega arith in
    let mapped : length ts ≡ length (take c.loop-i.i vs) = rw length-map refl in
    let long : length ts ≡ c.loop-i.i = omega (arith, length-take c.loop-i.i vs, mapped) in
    let place : c.in-Ok.place ≡ c.loop-i.i = c.in-Ok.ensures.1 in
    let room : length ts < 2 ^ 32 = omega (arith, c.in-Ok.ensures.0) in
    let here : Some c.match-find_place.first ≡ place_of (ts ++ t ∷ []) t = elim c.match-find_place.branch [
      | in-None w ↦ place-fresh ts t c.match-find_place.first (w.in-None.ensures.place ∙ ap (place_of ts) text)
          (w.first-is ∙ place ∙ sym long)
      | in-Some w ↦ place-known ts t c.match-find_place.first (ap (λ (n : ℕ). Some n) w.first-is
          ∙ w.in-Some.ensures.place ∙ ap (place_of ts) text)
    ] in
    rw (texts-more c.args.part ss vs c.loop-i.i c.index-variables-i.result lt c.index-variables-i.is)
    (index-more ts t c.loop-i.places (record { firsts = c.push.new.self; hints = c.insert.new.self })
    c.match-find_place.first c.text_key.result c.in-Ok.place c.loop-i.invariant room c.in_ok-push.ensures.items
    here (c.text_key.ensures ∙ ap key_of text) c.in_ok-insert.ensures.updates.0)
