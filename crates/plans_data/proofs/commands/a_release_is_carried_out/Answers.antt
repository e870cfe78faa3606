use Rattle.plans_data.proofs.CarriedRepairs.{release_steps_on, release_leads, release_stands}
use Rattle.plans_data.proofs.commands.a_release_is_carried_out.Goals as goal

pub returns : goal.returns
returns c = record { step = release_steps_on; comes = release_leads; stands = release_stands }
