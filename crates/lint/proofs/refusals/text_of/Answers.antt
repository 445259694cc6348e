use Rattle.std.proofs.Common.{rules, ◌≡◌, ◌∙◌, ◌++◌, ℕ, List, length, string_bytes, ap, subst}
use Rattle.std.specs.Prelude.{max}
use Rattle.std.proofs.lemmas.List.Sorted.{IsNonDecreasingBy-from_sort_by_key}
use Rattle.diagnostics.specs.declared.front.Refusal.{Refusal}
use Rattle.diagnostics.specs.Told.{total_text}
use Rattle.lint.specs.Tells.{TellsEach}
use Rattle.lint.proofs.refusals.text_of.Goals as goal

pub returns : goal.returns
returns c =
    let origin = c.args.origin.now in
    let items = c.args.items in
    let front = string_bytes c.in_ok-text.text in
    let after = string_bytes c.in_ok-noted.noted in
    let many : c.len-count.result ≡ length c.args.refusals.now.items =
    c.len-count.ensures ∙ c.in_ok-sort_by_key.ensures.len ∙ c.args.refusals.now.ok.0 in
    let grown : string_bytes c.push_str.new.self ≡ front ++ after =
    c.in_ok-push_str.ensures.bytes ∙ ap (λ (l : List ℕ). front ++ l) c.as_str.ensures.value in
    record {
      ordered = c.sort_by_key.new.self.items;
      moved = c.in_ok-sort_by_key.ensures.permutation;
      rising = IsNonDecreasingBy-from_sort_by_key (λ (r : Refusal). r.at) _ c.in_ok-sort_by_key.ensures.sorted
          (λ a r q k. search rules);
      front = front;
      tells = subst (λ (rs : List Refusal). TellsEach origin.parts.now origin.added.now rs front)
          c.as_slice.ensures.value c.in_ok-text.ensures;
      after = after;
      noted = c.in_ok-noted.ensures;
      is = c.in_ok-push_total.ensures.is
          ∙ ap (λ (l : List ℕ). l ++ total_text c.len-count.result c.max.result) grown
          ∙ ap (λ (n : ℕ). (front ++ after) ++ total_text c.len-count.result n) c.max.ensures
          ∙ ap (λ (n : ℕ). (front ++ after) ++ total_text n (max items n)) many;
    }
