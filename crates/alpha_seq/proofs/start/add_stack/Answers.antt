use Rattle.std.proofs.Common.{◌≡◌, ◌-◌, ◌^◌, ◌+◌, [], true, length, refl, ap, subst, sym, ◌∙◌}
use Rattle.std.proofs.lemmas.Result.{on_ok_weaker}
use Rattle.alpha_mem.specs.Block.{shapes}
use Rattle.alpha_mem.specs.Memory.{IsFree}
use Rattle.alpha_seq.specs.StartMemory.{memory_before}
use Rattle.alpha_seq.proofs.ImageLoads.{region-added, stack_free, start_memory-stack_last}
use Rattle.alpha_seq.proofs.start.add_stack.Goals as goal

pub add-requires-clause-free : goal.add-requires-clause-free
add-requires-clause-free c =
    let p = c.args.image.now in
    let size : c.from-size.result ≡ p.stack = c.from-size.ensures ∙ c.stack.ensures.value in
    subst (λ n. IsFree (shapes c.args.memory.now) (2 ^ 30 - n) (0 + n)) (sym size)
    (subst (λ m. IsFree (shapes m) (2 ^ 30 - p.stack) (0 + p.stack)) (sym c.requires)
    (stack_free p c.stack.ensures.good))

pub returns : goal.returns
returns c =
    let p = c.args.image.now in
    let n = c.from-size.result in
    let size : n ≡ p.stack = c.from-size.ensures ∙ c.stack.ensures.value in
    on_ok_weaker c.add.result
    (λ is.
    region-added c.args.memory.now c.add.new.self (memory_before p (length p.segments)) (2 ^ 30 - n) (2 ^ 30 - p.stack)
    n p.stack [] [] true c.requires (ap (λ k. 2 ^ 30 - k) size) refl size is ∙ start_memory-stack_last p)
    c.add.ensures.ok
