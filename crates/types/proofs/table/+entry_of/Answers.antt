use Rattle.assertions.specs.declared.sequence.Boolean.TheVariants.{Listed}
use Rattle.types.specs.Drafts.{uses}
use Rattle.types.specs.Views.{draft_of}
use Rattle.types.proofs.LackLaws.{lacks_first, lacks_second}
use Rattle.types.proofs.SpellLaws.{has_delay, has_lead, has_repeat, has_or, has_and, has_intersect}
use Rattle.types.proofs.SpellLaws.{has_throughout}
use Rattle.types.proofs.table.+entry_of.Goals as goal

pub returns-in_default-clause-lacking : goal.returns-in_default-clause-lacking
returns-in_default-clause-lacking t c =
    rw c.in-Delay.is
    (lacks_first c.args.table.now (uses (draft_of c.in-Delay.first.value))
    (uses (draft_of c.in-Delay.second.value))
    (rw (c.in_default.is, c.deref.ensures) at c.in_ok-first-in-Delay.ensures.lacking))

pub returns-in_default-2-clause-lacking : goal.returns-in_default-2-clause-lacking
returns-in_default-2-clause-lacking t c =
    rw c.in-Delay.is
    (lacks_second c.args.table.now (uses (draft_of c.in-Delay.first.value))
    (uses (draft_of c.in-Delay.second.value))
    (rw (c.in_default-2.is, c.deref-in-Delay.ensures) at c.in_ok-second-in-Delay.ensures.lacking))

pub returns-in_ok-delay-in-Delay-clause-entry : goal.returns-in_ok-delay-in-Delay-clause-entry
returns-in_ok-delay-in-Delay-clause-entry t c = λ bodies table.
    rw c.in-Delay.is
    (has_delay bodies (draft_of c.in-Delay.first.value) (draft_of c.in-Delay.second.value) c.in-Delay.least
    c.in-Delay.extra c.in-Some.first c.in-Some-2.second c.in_ok-delay-in-Delay.field-0
    ((rw (c.in-Some.is, c.deref.ensures) at c.in_ok-first-in-Delay.ensures.entry) bodies table)
    ((rw (c.in-Some-2.is, c.deref-in-Delay.ensures) at c.in_ok-second-in-Delay.ensures.entry) bodies table)
    c.in_ok-delay-in-Delay.ensures)

pub returns-in_ok-lead-in-Lead-clause-entry : goal.returns-in_ok-lead-in-Lead-clause-entry
returns-in_ok-lead-in-Lead-clause-entry t c = λ bodies table.
    rw c.in-Lead.is (has_lead bodies (draft_of c.in-Lead.body.value) c.in-Lead.least c.in-Lead.extra c.in-Some-3.body
    c.in_ok-lead-in-Lead.field-0
    ((rw (c.in-Some-3.is, c.deref-in-Lead.ensures) at c.in_ok-body-in-Lead.ensures.entry) bodies table)
    c.in_ok-lead-in-Lead.ensures)

pub returns-in_default-5-clause-lacking : goal.returns-in_default-5-clause-lacking
returns-in_default-5-clause-lacking t c =
    rw c.in-Or.is
    (lacks_first c.args.table.now (uses (draft_of c.in-Or.first.value)) (uses (draft_of c.in-Or.second.value))
    (rw (c.in_default-5.is, c.deref-in-Or.ensures) at c.in_ok-first-in-Or.ensures.lacking))

pub returns-in_default-6-clause-lacking : goal.returns-in_default-6-clause-lacking
returns-in_default-6-clause-lacking t c =
    rw c.in-Or.is
    (lacks_second c.args.table.now (uses (draft_of c.in-Or.first.value)) (uses (draft_of c.in-Or.second.value))
    (rw (c.in_default-6.is, c.deref-in-Or-2.ensures) at c.in_ok-second-in-Or.ensures.lacking))

pub returns-in_ok-or-in-Or-clause-entry : goal.returns-in_ok-or-in-Or-clause-entry
returns-in_ok-or-in-Or-clause-entry t c = λ bodies table.
    rw c.in-Or.is (has_or bodies (draft_of c.in-Or.first.value) (draft_of c.in-Or.second.value) c.in-Some-5.first
    c.in-Some-6.second c.in_ok-or-in-Or.field-0
    ((rw (c.in-Some-5.is, c.deref-in-Or.ensures) at c.in_ok-first-in-Or.ensures.entry) bodies table)
    ((rw (c.in-Some-6.is, c.deref-in-Or-2.ensures) at c.in_ok-second-in-Or.ensures.entry) bodies table)
    c.in_ok-or-in-Or.ensures)

pub returns-in_default-7-clause-lacking : goal.returns-in_default-7-clause-lacking
returns-in_default-7-clause-lacking t c =
    rw c.in-And.is
    (lacks_first c.args.table.now (uses (draft_of c.in-And.first.value)) (uses (draft_of c.in-And.second.value))
    (rw (c.in_default-7.is, c.deref-in-And.ensures) at c.in_ok-first-in-And.ensures.lacking))

pub returns-in_default-8-clause-lacking : goal.returns-in_default-8-clause-lacking
returns-in_default-8-clause-lacking t c =
    rw c.in-And.is
    (lacks_second c.args.table.now (uses (draft_of c.in-And.first.value)) (uses (draft_of c.in-And.second.value))
    (rw (c.in_default-8.is, c.deref-in-And-2.ensures) at c.in_ok-second-in-And.ensures.lacking))

pub returns-in_ok-and-in-And-clause-entry : goal.returns-in_ok-and-in-And-clause-entry
returns-in_ok-and-in-And-clause-entry t c = λ bodies table.
    rw c.in-And.is (has_and bodies (draft_of c.in-And.first.value) (draft_of c.in-And.second.value) c.in-Some-7.first
    c.in-Some-8.second c.in_ok-and-in-And.field-0
    ((rw (c.in-Some-7.is, c.deref-in-And.ensures) at c.in_ok-first-in-And.ensures.entry) bodies table)
    ((rw (c.in-Some-8.is, c.deref-in-And-2.ensures) at c.in_ok-second-in-And.ensures.entry) bodies table)
    c.in_ok-and-in-And.ensures)

pub returns-in_ok-repeat-in-Repeat-clause-entry : goal.returns-in_ok-repeat-in-Repeat-clause-entry
returns-in_ok-repeat-in-Repeat-clause-entry t c = λ bodies table.
    rw c.in-Repeat.is
    (has_repeat bodies (draft_of c.in-Repeat.body.value) c.in-Repeat.least c.in-Repeat.extra c.in-Some-4.body
    c.in_ok-repeat-in-Repeat.field-0
    ((rw (c.in-Some-4.is, c.deref-in-Repeat.ensures) at c.in_ok-body-in-Repeat.ensures.entry) bodies table)
    c.in_ok-repeat-in-Repeat.ensures)

pub returns-in_ok-throughout-in-Throughout-clause-entry :
    goal.returns-in_ok-throughout-in-Throughout-clause-entry
returns-in_ok-throughout-in-Throughout-clause-entry t c = λ bodies table.
    rw c.in-Throughout.is (has_throughout bodies (Listed c.in-Throughout.place) (draft_of c.in-Throughout.body.value)
    c.in-Some-9.body c.in_ok-throughout-in-Throughout.field-0
    ((rw (c.in-Some-9.is, c.deref-in-Throughout.ensures) at c.in_ok-body-in-Throughout.ensures.entry) bodies table)
    c.in_ok-throughout-in-Throughout.ensures)

pub returns-in_default-10-clause-lacking : goal.returns-in_default-10-clause-lacking
returns-in_default-10-clause-lacking t c =
    rw c.in-Intersect.is
    (lacks_first c.args.table.now (uses (draft_of c.in-Intersect.first.value))
    (uses (draft_of c.in-Intersect.second.value))
    (rw (c.in_default-10.is, c.deref-in-Intersect.ensures) at c.in_ok-first-in-Intersect.ensures.lacking))

pub returns-in_default-11-clause-lacking : goal.returns-in_default-11-clause-lacking
returns-in_default-11-clause-lacking t c =
    rw c.in-Intersect.is
    (lacks_second c.args.table.now (uses (draft_of c.in-Intersect.first.value))
    (uses (draft_of c.in-Intersect.second.value))
    (rw (c.in_default-11.is, c.deref-in-Intersect-2.ensures) at c.in_ok-second-in-Intersect.ensures.lacking))

pub returns-in_ok-intersect-in-Intersect-clause-entry : goal.returns-in_ok-intersect-in-Intersect-clause-entry
returns-in_ok-intersect-in-Intersect-clause-entry t c = λ bodies table.
    rw c.in-Intersect.is
    (has_intersect bodies (draft_of c.in-Intersect.first.value)
    (draft_of c.in-Intersect.second.value) c.in-Some-10.first
    c.in-Some-11.second c.in_ok-intersect-in-Intersect.field-0
    ((rw (c.in-Some-10.is, c.deref-in-Intersect.ensures) at c.in_ok-first-in-Intersect.ensures.entry) bodies table)
    ((rw (c.in-Some-11.is, c.deref-in-Intersect-2.ensures) at c.in_ok-second-in-Intersect.ensures.entry) bodies table)
    c.in_ok-intersect-in-Intersect.ensures)
