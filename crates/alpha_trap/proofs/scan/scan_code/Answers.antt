use Rattle.std.proofs.Common.{◌≢◌, sym, arith}
use Rattle.alpha_trap.proofs.ScanRelation.{scan-IfSome, scan-IfNone, walked-scan}
use Rattle.alpha_trap.proofs.scan.scan_code.Goals as goal

pub returns-clause-found : goal.returns-clause-found
returns-clause-found g c =
    let some : c.args.mask ≢ 0 = omega (arith, c.bits.ensures.value) in
    scan-IfSome (g.C.TrapCode.parts c.args.code.now) c.args.trap_pc c.args.mask c.place_before.result
    (walked-scan (g.C.TrapCode.parts c.args.code.now) c.args.trap_pc c.args.mask c.in_ok-end.end c.place_before.result
    some (sym c.in_ok-end.ensures.value) c.place_before.ensures.value)

pub returns-clause-none : goal.returns-clause-none
returns-clause-none g c =
    let some : c.args.mask ≢ 0 = omega (arith, c.bits.ensures.value) in
    scan-IfNone (g.C.TrapCode.parts c.args.code.now) c.args.trap_pc c.args.mask c.place_before.result
    (walked-scan (g.C.TrapCode.parts c.args.code.now) c.args.trap_pc c.args.mask c.in_ok-end.end c.place_before.result
    some (sym c.in_ok-end.ensures.value) c.place_before.ensures.value)
