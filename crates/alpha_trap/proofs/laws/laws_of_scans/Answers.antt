use Rattle.alpha_trap.proofs.ScanRelation.{fits_Fits, Fits_fits, scan-Finds, scan-is, scan-last}
use Rattle.alpha_trap.proofs.laws.laws_of_scans.Goals as goal

pub returns-clause-fits : goal.returns-clause-fits
returns-clause-fits c = λ code mask at to below. (fits_Fits code mask at to below, Fits_fits code mask at to)

pub returns-clause-finds : goal.returns-clause-finds
returns-clause-finds c = λ image pc mask at. (scan-Finds image pc mask at, scan-is image pc mask at)

pub returns-clause-last : goal.returns-clause-last
returns-clause-last c = scan-last
