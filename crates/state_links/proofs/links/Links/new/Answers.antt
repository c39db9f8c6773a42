use Rattle.state_links.proofs.links.Links.new.Goals as goal

pub returns-clause-fits : goal.returns-clause-fits
returns-clause-fits c g below = record { handles = c.new.ensures g below; table = c.new-2.ensures.fits g below }
