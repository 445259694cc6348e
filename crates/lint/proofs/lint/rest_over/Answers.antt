use Rattle.std.proofs.Common.{◌∙◌, ℕ, [], string_bytes, sym, subst}
use Rattle.std.proofs.lemmas.List.{nil_from_length}
use Rattle.lint.specs.Tells.{TellsAll}
use Rattle.lint.proofs.lint.rest_over.Goals as goal

pub returns-clause-tells : goal.returns-clause-tells
returns-clause-tells c =
    let origin = c.args.origin.now in
    let told = c.in_ok-told.told in
    let looked = c.in_ok-told.ensures.told in
    record {
      ends = looked.0;
      items = looked.2;
      refusals = told.linted.refusals.items;
      told_of = looked.3;
      many = sym (c.len-refused.ensures ∙ told.linted.refusals.ok.0);
      tells = subst (λ (n : ℕ). TellsAll origin.parts.now origin.added.now told.linted.refusals.items [] n
          (string_bytes c.in_ok-written.written)) looked.1 c.in_ok-written.ensures;
      accepted = λ none.
          c.in_ok-told.ensures.accepted (nil_from_length told.linted.refusals.items
          (sym (c.len-refused.ensures ∙ told.linted.refusals.ok.0) ∙ none));
      left = c.in_ok-told.ensures.left;
    }
