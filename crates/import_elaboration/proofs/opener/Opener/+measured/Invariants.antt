use Rattle.import_elaboration.proofs.opener.Opener.+measured.Given as goal

abbrev pub decreases-measured : goal.decreases-measured
decreases-measured l = l.depth
