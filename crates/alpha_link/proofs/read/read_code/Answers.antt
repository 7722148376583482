use Rattle.std.proofs.Common.{◌≡◌, ◌*◌, ℕ, length, map, take, drop, ap, sym, ◌∙◌, arith}
use Rattle.std.specs.Prelude.{min}
use Rattle.std.proofs.lemmas.List.{length-take}
use Rattle.alpha_table.specs.Decoded.{decoded}
use Rattle.alpha_link.proofs.WordBytes.{words_at-whole_words, words_at-cut, words_at-whole, words_at-IsRefusal}
use Rattle.alpha_link.proofs.read.read_code.Goals as goal

pub returns-then-code-size-clause-value : goal.returns-then-code-size-clause-value
returns-then-code-size-clause-value c =
    let bytes = c.args.bytes.now in
    let n = c.args.count in
    let code = c.split_at.result.0.now in
    let cut : code ≡ take (min (4 * n) (length bytes)) bytes =
    c.split_at.ensures.front ∙ ap (λ (k : ℕ). take k bytes) c.min.ensures in
    words_at-cut c.args.total n bytes code
    (words_at-whole_words n bytes code cut) c.if-code-size.true c.in-Ok.ensures.fault

pub returns-else-code-size-clause-value : goal.returns-else-code-size-clause-value
returns-else-code-size-clause-value c =
    let bytes = c.args.bytes.now in
    let n = c.args.count in
    let code = c.split_at.result.0.now in
    let cut : code ≡ take (min (4 * n) (length bytes)) bytes =
    c.split_at.ensures.front ∙ ap (λ (k : ℕ). take k bytes) c.min.ensures in
    let size : c.min.result ≡ 4 * n =
    omega (arith, ap length cut, length-take (min (4 * n) (length bytes)) bytes, c.min.ensures) in
    let behind : c.split_at.result.1.now ≡ drop (4 * n) bytes =
    c.split_at.ensures.back ∙ ap (λ (k : ℕ). drop k bytes) size in
    (words_at-whole c.args.total n bytes code c.split_at.result.1.now c.in-Ok.insns.items
    (λ i. omega (arith, c.type_inv.bytes i))
    (words_at-whole_words n bytes code cut) behind c.if-code-size.false c.in-Ok.ensures.fault c.in-Ok.ensures.insns).0

pub returns-else-code-size-clause-known : goal.returns-else-code-size-clause-known
returns-else-code-size-clause-known c =
    let bytes = c.args.bytes.now in
    let n = c.args.count in
    let code = c.split_at.result.0.now in
    let cut : code ≡ take (min (4 * n) (length bytes)) bytes =
    c.split_at.ensures.front ∙ ap (λ (k : ℕ). take k bytes) c.min.ensures in
    let size : c.min.result ≡ 4 * n =
    omega (arith, ap length cut, length-take (min (4 * n) (length bytes)) bytes, c.min.ensures) in
    let behind : c.split_at.result.1.now ≡ drop (4 * n) bytes =
    c.split_at.ensures.back ∙ ap (λ (k : ℕ). drop k bytes) size in
    let same = (words_at-whole c.args.total n bytes code c.split_at.result.1.now c.in-Ok.insns.items
    (λ i. omega (arith, c.type_inv.bytes i))
    (words_at-whole_words n bytes code cut) behind c.if-code-size.false c.in-Ok.ensures.fault
    c.in-Ok.ensures.insns).1 in
    ap (map decoded) (sym same) ∙ c.in-Ok.ensures.insns

pub returns-in-Err-clause-value : goal.returns-in-Err-clause-value
returns-in-Err-clause-value c =
    let bytes = c.args.bytes.now in
    let n = c.args.count in
    let code = c.split_at.result.0.now in
    let cut : code ≡ take (min (4 * n) (length bytes)) bytes =
    c.split_at.ensures.front ∙ ap (λ (k : ℕ). take k bytes) c.min.ensures in
    rw c.fault_of_words.ensures
    (words_at-IsRefusal c.args.total n bytes code c.in-Err.fault
    (words_at-whole_words n bytes code cut) c.in-Err.ensures.fault)
