use Rattle.std.proofs.Common.{◌∙◌, ℕ, List, string_bytes, sym, subst}
use Rattle.std.proofs.lemmas.List.{nil_from_length}
use Rattle.diagnostics.specs.declared.front.Refusal.{Refusal}
use Rattle.lint.specs.Tells.{TellsAll}
use Rattle.lint.proofs.lint.noted_over.Goals as goal

pub returns : goal.returns
returns c =
    let origin = c.args.origin.now in
    let told = c.in_ok-told.told in
    let looked = c.in_ok-told.ensures.told in
    let refusals = told.linted.refusals.items in
    let out = string_bytes c.in_ok-written.written in (
      c.in_ok-notes.notes.items,
      record {
        ends = looked.0;
        items = looked.2;
        refusals = refusals;
        told_of = looked.3;
        many = sym (c.len-refused.ensures ∙ told.linted.refusals.ok.0);
        tells = subst (λ (n : ℕ). TellsAll origin.parts.now origin.added.now refusals c.in_ok-notes.notes.items n out)
            looked.1
            (subst (λ (ns : List Refusal). TellsAll origin.parts.now origin.added.now refusals ns told.items out)
            c.as_slice-4.ensures.value c.in_ok-written.ensures);
        accepted = λ none.
            c.in_ok-told.ensures.accepted (nil_from_length refusals
            (sym (c.len-refused.ensures ∙ told.linted.refusals.ok.0) ∙ none));
        left = c.in_ok-told.ensures.left;
      },
    )
