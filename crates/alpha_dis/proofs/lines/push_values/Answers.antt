use Rattle.std.proofs.Common.{◌≡◌, ◌<◌, ◌≤◌, ◌++◌, ◌∷◌, [], List, ℕ, decimal, length, get_or, ap, ◌∙◌, length-append}
use Rattle.std.proofs.Common.{arith}
use Rattle.std.proofs.lemmas.Fmt.{length-decimal-le}
use Rattle.alpha_dis.proofs.ListingTexts.{values-first, values-more}
use Rattle.alpha_dis.proofs.lines.push_values.Goals as goal
use Rattle.alpha_dis.proofs.lines.push_values.Goals.{then-n-gt0, else-n-gt0}

pub loop-n-preserved : goal.loop-n-preserved
loop-n-preserved c =
    let l = c.loop-n in
    let bytes = c.args.bytes.now in
    let b = get_or bytes l.n 0 in
    let within : l.n < length bytes = omega arith in
    let small : b < 256 = omega (arith, c.type_inv.bytes l.n) in
    let short : length (decimal b) ≤ 3 = length-decimal-le 3 b (omega arith) (omega arith) (omega arith) in
    let last : c.push_decimal.new.self ≡ c.if-n-gt0.block ++ decimal b =
    c.push_decimal.ensures.state ∙ ap (λ (n : ℕ). c.if-n-gt0.block ++ decimal n) c.from.ensures in
    let size = length-append c.if-n-gt0.block (decimal b) in
    elim c.if-n-gt0.branch [
      | then-n-gt0 w ↦
          let comma : c.if-n-gt0.block ≡ l.block ++ (44 ∷ []) = w.block-is ∙ w.push.ensures in
          record {
            size =
                omega (arith, ap length last, size, ap length comma, length-append l.block (44 ∷ []), l.invariant.size);
            state =
                last
                ∙ (ap (λ (t : List ℕ). t ++ decimal b) (comma ∙ ap (λ (t : List ℕ). t ++ (44 ∷ [])) l.invariant.state)
                ∙ values-more bytes l.n c.args.block.now w.if-n-gt0.true within);
          }
      | else-n-gt0 w ↦
          record {
            size = omega (arith, ap length last, size, ap length w.block-is, l.invariant.size);
            state =
                last
                ∙ (ap (λ (t : List ℕ). t ++ decimal b) (w.block-is ∙ l.invariant.state)
                ∙ values-first bytes l.n c.args.block.now (omega (arith, w.if-n-gt0.false)) within);
          }
    ]
