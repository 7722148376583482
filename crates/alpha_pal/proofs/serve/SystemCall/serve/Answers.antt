use Rattle.std.proofs.Common.{◌≢◌, refl, arith}
use Rattle.alpha_io.specs.Supply.{supply}
use Rattle.alpha_pal.proofs.SystemCalls.{Serves-exit, Serves-none}
use Rattle.alpha_pal.proofs.serve.SystemCall.serve.Goals as goal

pub returns-in-1-clause-effect : goal.returns-in-1-clause-effect
returns-in-1-clause-effect g c = (λ o. Serves-exit c.args.self c.args.mem.now c.in-1.is o, refl, refl, refl)

pub returns-in_default-clause-effect : goal.returns-in_default-clause-effect
returns-in_default-clause-effect g c =
    let n1 : c.args.self.number ≢ 1 = omega arith in
    let n3 : c.args.self.number ≢ 3 = omega arith in
    let n4 : c.args.self.number ≢ 4 = omega arith in
    Serves-none c.args.self c.args.mem.now (supply g.S.Source c.args.input.now)
    (g.K.Sink.written c.args.out.now) n1 n3 n4
