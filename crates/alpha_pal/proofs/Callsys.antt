-- A system call by the ways in which it goes, and by the parts in which the code makes it.
use Rattle.std.proofs.Common.{◌≡◌, ℕ, Bool, true, false, cond, eqb, not, List, length, take, refl}
use Rattle.alpha_words.specs.declared.PalCall.TheVariants.{Callsys}
use Rattle.alpha_words.specs.Regs.{reg}
use Rattle.alpha_mem.specs.Intent.{Load, Store}
use Rattle.alpha_mem.specs.Block.{Block, shapes, within}
use Rattle.alpha_mem.specs.Memory.{bytes_at, write_bytes}
use Rattle.alpha_pal.specs.Call.{Silent, Read, Wrote, Called, exits, answers, callsys, call}
use Rattle.alpha_pal.specs.Serve.{Served, serve, system_call_of, after_serve}

cond-by_input : (P : (List ℕ → Called) → Type 0) (b : Bool) (x y : List ℕ → Called) → P x → P y
    → P (λ input. cond b (x input) (y input))
cond-by_input P true x y p q = p
cond-by_input P false x y p q = q

-- what holds of an exit, of each error, of a good read and of a good write, by what there is to be read
pub callsys-each : (P : (List ℕ → Called) → Type 0) (regs : List ℕ) (mem : List Block) (unique : ℕ)
    → P (λ input. exits (reg regs 16))
    → ((n : ℕ) → P (λ input. answers n 1 regs mem unique Silent))
    → P (λ input.
    answers (length (take (reg regs 18) input)) 0 regs (write_bytes mem (reg regs 17) (take (reg regs 18) input)) unique
    (Read (reg regs 18) (take (reg regs 18) input)))
    → P (λ input. answers (reg regs 18) 0 regs mem unique (Wrote (bytes_at mem (reg regs 17) (reg regs 18))))
    → P (λ input. callsys (reg regs 0) regs mem unique input)
callsys-each P regs mem unique ends fails reads writes =
    cond-by_input P (eqb (reg regs 0) 1) _ _ ends
    (cond-by_input P (eqb (reg regs 0) 3) _ _
    (cond-by_input P (not (eqb (reg regs 16) 0)) _ _ (fails 9)
    (cond-by_input P (not (within (shapes mem) Store (reg regs 17) (reg regs 18))) _ _ (fails 14) reads))
    (cond-by_input P (eqb (reg regs 0) 4) _ _
    (cond-by_input P (not (eqb (reg regs 16) 1)) _ _ (fails 9)
    (cond-by_input P (not (within (shapes mem) Load (reg regs 17) (reg regs 18))) _ _ (fails 14) writes))
    (fails 78)))

after_serve-cond : (regs : List ℕ) (unique : ℕ) (b : Bool) (x y : Called) (s t : Served) → x ≡ after_serve regs unique s
    → y ≡ after_serve regs unique t
    → cond b x y ≡ after_serve regs unique (cond b s t)
after_serve-cond regs unique true x y s t p q = p
after_serve-cond regs unique false x y s t p q = q

pub call_callsys-serve : (regs : List ℕ) (mem : List Block) (unique : ℕ) (input : List ℕ)
    → call Callsys regs mem unique input ≡ after_serve regs unique (serve (system_call_of regs) mem input)
unfolding call serve
call_callsys-serve regs mem unique input =
    after_serve-cond regs unique (eqb (reg regs 0) 1) _ _ _ _ refl
    (after_serve-cond regs unique (eqb (reg regs 0) 3) _ _ _ _
    (after_serve-cond regs unique (not (eqb (reg regs 16) 0)) _ _ _ _ refl
    (after_serve-cond regs unique (not (within (shapes mem) Store (reg regs 17) (reg regs 18))) _ _ _ _ refl refl))
    (after_serve-cond regs unique (eqb (reg regs 0) 4) _ _ _ _
    (after_serve-cond regs unique (not (eqb (reg regs 16) 1)) _ _ _ _ refl
    (after_serve-cond regs unique (not (within (shapes mem) Load (reg regs 17) (reg regs 18))) _ _ _ _ refl refl))
    refl))
