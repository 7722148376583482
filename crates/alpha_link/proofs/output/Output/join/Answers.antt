use Rattle.std.proofs.Common.{◌≡◌, None}
use Rattle.alpha_link.proofs.LinkedImages.{IsAllowed-joined}
use Rattle.alpha_link.proofs.JoinedModules.{joins_one}
use Rattle.alpha_link.proofs.output.Output.join.Goals as goal

pub returns-clause-joined : goal.returns-clause-joined
returns-clause-joined c = λ ok.
    let none : c.put_relocations.result ≡ None = cc in
    joins_one c.in_ok-addresses.addresses _ c.args.located.now c.args.self.now c.append.new.self
    c.put_relocations.new.self
    c.append.ensures.good c.in_ok-addresses.ensures.value c.requires.words c.requires.filled
    c.in_ok-append.ensures.code c.in_ok-append.ensures.bytes c.in_ok-append.ensures.size
    (c.put_relocations.ensures.code none)
    (c.put_relocations.ensures.bytes none)

pub returns-clause-insns : goal.returns-clause-insns
returns-clause-insns c =
    λ ok all. IsAllowed-joined _ c.args.located.now c.args.self.now c.put_relocations.new.self c.append.ensures.good
    (returns-clause-joined c ok) all
