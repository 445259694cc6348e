use Rattle.assertions.proofs.read.names_read.Goals as goal

pub returns : goal.returns
returns c =
    rw (c.in_ok-first.ensures, c.as_slice.ensures.value, c.as_slice-2.ensures.value, c.as_slice-3.ensures.value) at
    c.names_through.ensures
