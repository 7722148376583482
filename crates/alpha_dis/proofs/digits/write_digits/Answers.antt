use Rattle.std.proofs.Common.{◌≡◌, ℕ, ◌+◌, ◌-◌, ◌/◌, ◌%◌, ◌^◌, ◌<◌, ◌≤◌, ◌∷◌, List, [], false, length, drop, set, sym}
use Rattle.std.proofs.Common.{ap, subst, ◌∙◌, add-one, arith}
use Rattle.std.specs.Fmt.{digit_glyph}
use Rattle.std.proofs.lemmas.List.{drop_all, drop-set, drop-set-lt, length-set}
use Rattle.alpha_dis.proofs.Hexadecimal.{hex_digits_onto, hex_digits_onto-none, hex_digits_onto-more}
use Rattle.alpha_dis.proofs.Hexadecimal.{hex_digits_onto-last, hex_digits-second_has_room, fewer_digits}
use Rattle.alpha_dis.proofs.digits.write_digits.Goals as goal

-- what stands from the place on where a digit was written
written_at : (out : List ℕ) (at x digit : ℕ) → at < length out → x ≡ digit
    → drop at (set out at x) ≡ digit ∷ drop (at + 1) (set out at x)
written_at out at x digit within e =
    drop-set out at x within
    ∙ (ap (λ (d : ℕ). d ∷ drop (at + 1) out) e
    ∙ ap (λ (l : List ℕ). digit ∷ l) (sym (drop-set-lt (at + 1) out at x (omega arith))))

pub loop-rest-init : goal.loop-rest-init
loop-rest-init c =
    let out = set c.args.out.now 15 c.digit.result in
    let long : length out ≡ 16 = length-set c.args.out.now 15 c.digit.result ∙ c.told-out in
    let none : drop 16 out ≡ [] = drop_all 16 out (omega arith) in
    record {
      place = omega arith;
      within = c.ranges.number.fits;
      last =
          written_at c.args.out.now 15 c.digit.result (digit_glyph false (c.args.number % 16))
          (omega (arith, c.told-out)) c.digit.ensures;
      written = ap (hex_digits_onto 16 c.args.number) none ∙ hex_digits_onto-none c.args.number;
    }

pub loop-rest-preserved : goal.loop-rest-preserved
loop-rest-preserved c =
    let l = c.loop-rest in
    let at = l.at - 1 in
    let rest = l.rest / 16 in
    let x = c.digit-in-loop-rest.result in
    let more : 16 ≤ l.rest = c.loop-rest-test.true in
    let some = hex_digits-second_has_room l.at l.rest more l.invariant.within in
    let back : l.at ≡ at + 1 = omega arith in
    let behind : drop (at + 1) (set l.out at x) ≡ drop l.at l.out =
    drop-set-lt (at + 1) l.out at x (omega arith) ∙ ap (λ (k : ℕ). drop k l.out) (sym back) in
    record {
      place = omega arith;
      within = subst (λ (k : ℕ). rest < 16 ^ k) back (fewer_digits l.at l.rest l.invariant.within);
      last = written_at l.out at x (digit_glyph false (rest % 16)) (omega arith) c.digit-in-loop-rest.ensures;
      written =
          ap (hex_digits_onto (at + 1) rest) behind
          ∙ (ap (λ (k : ℕ). hex_digits_onto k rest (drop l.at l.out)) (sym back)
          ∙ (ap (hex_digits_onto l.at rest) l.invariant.last
          ∙ (sym (hex_digits_onto-more l.at l.rest (drop (l.at + 1) l.out) more)
          ∙ (ap (λ (k : ℕ). hex_digits_onto k l.rest (drop (l.at + 1) l.out)) (sym (add-one l.at))
          ∙ l.invariant.written))));
    }

pub returns-clause-value : goal.returns-clause-value
returns-clause-value c =
    let l = c.loop-rest in
    l.invariant.last
    ∙ (sym (hex_digits_onto-last (l.at + 1) l.rest (drop (l.at + 1) l.out) c.loop-rest-test.false)
    ∙ l.invariant.written)
