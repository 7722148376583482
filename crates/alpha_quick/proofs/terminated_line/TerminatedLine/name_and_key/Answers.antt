use Rattle.std.proofs.Common.{◌≡◌, ◌<◌, ◌≤◌, ◌+◌, ◌*◌, ◌-◌, ◌/◌, ◌^◌, get_or, sym, refl, ap, arith, rules}
use Rattle.alpha_quick.specs.TerminatedLine.{rest_from}
use Rattle.alpha_quick.proofs.NameWords.{is_named-line_front, bound_of_eight}
use Rattle.alpha_quick.proofs.terminated_line.TerminatedLine.name_and_key.Goals as goal

pub returns-clause-key : goal.returns-clause-key
returns-clause-key c = λ name has.
    let xs = c.args.self.now.bytes.now in
    let end = c.args.self.now.end in
    let i = c.args.i in
    let n = c.name_length-n.result in
    let (inside, low) = c.requires.ended in
    let z : c.args.i + 0 ≡ c.args.i = omega arith in
    let some : 0 < n = search rules in
    let few : n ≤ 8 = c.name_length-n.ensures.few in
    let first : 0 < get_or c.args.self.now.bytes.now c.args.i 0 = search rules in
    let within : c.args.i + c.name_length-n.result ≤ c.args.self.now.end =
    omega (arith, c.name_length-n.ensures.within, c.requires.within) in
    is_named-line_front name xs (rest_from c.args.self.now (i + n)) end i n
    (c.word_of_bytes-word.result / 2 ^ (64 - 8 * n)) has
    (bound_of_eight (λ k. get_or xs (i + k) 0) (rw z c.word_of_bytes-word.ensures.bytes)) first some few within inside
    (ap (λ w. w / 2 ^ (64 - 8 * n)) (sym c.word_of_bytes-word.ensures.value)) refl
