use Rattle.alpha_pal.proofs.LawLemmas.{shapes-call, length-call}
use Rattle.alpha_pal.proofs.InputRequests.{CallReturnsTold-from}
use Rattle.alpha_pal.proofs.Callsys.{call_callsys-serve}
use Rattle.alpha_pal.proofs.laws.laws_of_calls.Goals as goal

pub returns-clause-shapes : goal.returns-clause-shapes
returns-clause-shapes c = shapes-call

pub returns-clause-registers : goal.returns-clause-registers
returns-clause-registers c = length-call

pub returns-clause-served : goal.returns-clause-served
returns-clause-served c = call_callsys-serve

pub returns-clause-told : goal.returns-clause-told
returns-clause-told c = CallReturnsTold-from
