-- The laws of links.
use Rattle.lib_wiring.proofs.WireLaws.{connectable_is_fitting, fitting_is_the_same, links_lead_in, links_are_the_same, turned_are_linked}
use Rattle.lib_wiring.proofs.laws.wires_fit.Goals as goal

pub returns-clause-fitting : goal.returns-clause-fitting
returns-clause-fitting c = connectable_is_fitting

pub returns-clause-leads_in : goal.returns-clause-leads_in
returns-clause-leads_in c = links_lead_in

pub returns-clause-same_links : goal.returns-clause-same_links
returns-clause-same_links c = links_are_the_same

pub returns-clause-same_fitting : goal.returns-clause-same_fitting
returns-clause-same_fitting c = fitting_is_the_same

pub returns-clause-turned : goal.returns-clause-turned
returns-clause-turned c = turned_are_linked
