use Rattle.cert_check.proofs.entries.Entries.open.Goals as goal

pub returns-clause-narrow : goal.returns-clause-narrow
returns-clause-narrow c = c.in_ok-menus.ensures.made.narrow
