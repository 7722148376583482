-- The laws of calls. The function of `src/laws.rt` carries them as its contract.
use Rattle.std.proofs.Common.{◌≡◌, ℕ, List, length, take, refl, sym, ap, ◌∙◌}
use Rattle.alpha_words.specs.declared.PalCall.{PalCall}
use Rattle.alpha_words.specs.declared.PalCall.TheVariants.{Bpt, Bugchk, Callsys, Imb, Rdunique, Wrunique, Gentrap}
use Rattle.alpha_words.specs.Regs.{reg, put}
use Rattle.alpha_words.proofs.RegLemmas.{length-put}
use Rattle.alpha_mem.specs.Block.{Block, shapes}
use Rattle.alpha_mem.proofs.LawLemmas.{shapes-write_bytes}
use Rattle.alpha_pal.specs.Call.{Traffic, Called, continues, exits, signals, call}
use Rattle.alpha_pal.proofs.Callsys.{callsys-each}

-- the memory that a call leaves, this one where it ends
mem_of : List Block → Called → List Block
mem_of mem (continues regs now unique traffic) = now
mem_of mem (exits v) = mem
mem_of mem (signals code) = mem

mem_of-call : (function : PalCall) (regs : List ℕ) (mem : List Block) (unique : ℕ) (input : List ℕ)
    → shapes (mem_of mem (call function regs mem unique input)) ≡ shapes mem
unfolding mem_of call
mem_of-call Bpt regs mem unique input = refl
mem_of-call Bugchk regs mem unique input = refl
mem_of-call Gentrap regs mem unique input = refl
mem_of-call Imb regs mem unique input = refl
mem_of-call Rdunique regs mem unique input = refl
mem_of-call Wrunique regs mem unique input = refl
mem_of-call Callsys regs mem unique input =
    callsys-each (λ c. shapes (mem_of mem (c input)) ≡ shapes mem) regs mem unique refl (λ n. refl)
    (shapes-write_bytes mem (reg regs 17) (take (reg regs 18) input)) refl

pub shapes-call : (function : PalCall) (regs regs' : List ℕ) (mem mem' : List Block) (unique unique' : ℕ)
    (input : List ℕ) (traffic : Traffic)
    → call function regs mem unique input ≡ continues regs' mem' unique' traffic → shapes mem' ≡ shapes mem
unfolding mem_of
shapes-call function regs regs' mem mem' unique unique' input traffic e =
    ap (λ c. shapes (mem_of mem c)) (sym e) ∙ mem_of-call function regs mem unique input

-- the registers that a call leaves, these where it ends
regs_of : List ℕ → Called → List ℕ
regs_of regs (continues now mem unique traffic) = now
regs_of regs (exits v) = regs
regs_of regs (signals code) = regs

length-answers : (regs : List ℕ) (result failed : ℕ) → length (put (put regs 0 result) 19 failed) ≡ length regs
length-answers regs result failed = length-put (put regs 0 result) 19 failed ∙ length-put regs 0 result

regs_of-call : (function : PalCall) (regs : List ℕ) (mem : List Block) (unique : ℕ) (input : List ℕ)
    → length (regs_of regs (call function regs mem unique input)) ≡ length regs
unfolding regs_of call
regs_of-call Bpt regs mem unique input = refl
regs_of-call Bugchk regs mem unique input = refl
regs_of-call Gentrap regs mem unique input = refl
regs_of-call Imb regs mem unique input = refl
regs_of-call Rdunique regs mem unique input = length-put regs 0 unique
regs_of-call Wrunique regs mem unique input = refl
regs_of-call Callsys regs mem unique input =
    callsys-each (λ c. length (regs_of regs (c input)) ≡ length regs) regs mem unique refl
    (λ n. length-answers regs n 1) (length-answers regs _ 0) (length-answers regs _ 0)

pub length-call : (function : PalCall) (regs regs' : List ℕ) (mem mem' : List Block) (unique unique' : ℕ)
    (input : List ℕ) (traffic : Traffic)
    → call function regs mem unique input ≡ continues regs' mem' unique' traffic → length regs' ≡ length regs
unfolding regs_of
length-call function regs regs' mem mem' unique unique' input traffic e =
    ap (λ c. length (regs_of regs c)) (sym e) ∙ regs_of-call function regs mem unique input
