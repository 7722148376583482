use Rattle.alpha_replay.proofs.play.play_item.Goals as goal

pub returns-in-Units-clause-made : goal.returns-in-Units-clause-made
returns-in-Units-clause-made c = rw c.in-Units.is c.make_units.ensures.made

pub returns-in-Trigger-clause-made : goal.returns-in-Trigger-clause-made
returns-in-Trigger-clause-made c = rw c.in-Trigger.is c.make_move.ensures.made

pub returns-in-Wait-clause-made : goal.returns-in-Wait-clause-made
returns-in-Wait-clause-made c = rw c.in-Wait.is c.make_move-in-Wait.ensures.made

pub returns-in-Report-clause-made : goal.returns-in-Report-clause-made
returns-in-Report-clause-made c = rw c.in-Report.is c.make_move-in-Report.ensures.made
