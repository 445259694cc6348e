use Rattle.cli.proofs.checked.check_by_team.Goals as goal

pub returns-clause-answered : goal.returns-clause-answered
returns-clause-answered g c =
    c.check_over.ensures.answered (g.S.Source.state c.args.source.now)
    (g.S.Source.state c.read_dump_by.new.source)
    (record { said = c.in_ok-dump.ensures.accepted; reads = c.in_ok-dump.ensures.counted })

pub returns-clause-refused : goal.returns-clause-refused
returns-clause-refused g c =
    c.check_over.ensures.refused (g.S.Source.state c.args.source.now)
    (g.S.Source.state c.read_dump_by.new.source)
    (record { said = c.in_ok-dump.ensures.accepted; reads = c.in_ok-dump.ensures.counted })
