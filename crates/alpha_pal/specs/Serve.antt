-- A system call as the code makes it, in three parts: what the registers ask for, what is answered, and how that stands
-- in the registers. `laws_of_calls` says that together they are the call.
use Rattle.std.specs.Prelude.{ℕ, ◌==◌, not, if◌then◌else◌, List, length, take}
use Rattle.alpha_words.specs.Regs.{reg, put}
use Rattle.alpha_mem.specs.Intent.{Load, Store}
use Rattle.alpha_mem.specs.Block.{Block, shapes, within}
use Rattle.alpha_mem.specs.Memory.{bytes_at, write_bytes}
use Rattle.alpha_pal.specs.declared.serve.SystemCall.{SystemCall}
use Rattle.alpha_pal.specs.declared.serve.Answer.{Answer}
use Rattle.alpha_pal.specs.declared.serve.Answer.TheVariants.{Read, Wrote, Error, Exit}
use Rattle.alpha_pal.specs.Call.{Traffic, Silent, Called, continues, exits}
use Rattle.alpha_pal.specs.Call as traffics

-- the system calls, by R0
abbrev pub exit_call : ℕ
exit_call = 1

abbrev pub read_call : ℕ
read_call = 3

abbrev pub write_call : ℕ
write_call = 4

-- the descriptors that a read and a write take
abbrev pub input_descriptor : ℕ
input_descriptor = 0

abbrev pub output_descriptor : ℕ
output_descriptor = 1

-- the errors
abbrev pub no_such_call : ℕ
no_such_call = 78

abbrev pub bad_descriptor : ℕ
bad_descriptor = 9

abbrev pub bad_range : ℕ
bad_range = 14

-- what a system call answers, the memory that it leaves, and what passed
pub record Served : Type 0 where
  pub answer : Answer
  pub mem : List Block
  pub traffic : Traffic

abbrev pub served : Answer → List Block → Traffic → Served
served answer mem traffic = record { answer = answer; mem = mem; traffic = traffic }

-- read takes bytes of the input to memory until there are as many as asked for, or the input has ended
abbrev pub serve_read : SystemCall → List Block → List ℕ → Served
serve_read r mem input =
    if not (r.a0 == input_descriptor) then served (Error bad_descriptor) mem Silent else
    if not (within (shapes mem) Store r.a1 r.a2) then served (Error bad_range) mem Silent else
    served (Read (length (take r.a2 input))) (write_bytes mem r.a1 (take r.a2 input))
    (traffics.Read r.a2 (take r.a2 input))

-- write puts bytes of memory to the output
abbrev pub serve_write : SystemCall → List Block → Served
serve_write r mem =
    if not (r.a0 == output_descriptor) then served (Error bad_descriptor) mem Silent else
    if not (within (shapes mem) Load r.a1 r.a2) then served (Error bad_range) mem Silent else
    served (Wrote r.a2) mem (traffics.Wrote (bytes_at mem r.a1 r.a2))

-- a number that is none of the three is no system call
unfoldable pub serve : SystemCall → List Block → List ℕ → Served
serve r mem input =
    if r.number == exit_call then served (Exit r.a0) mem Silent else
    if r.number == read_call then serve_read r mem input else
    if r.number == write_call then serve_write r mem else
    served (Error no_such_call) mem Silent

-- the system call that the registers ask for
abbrev pub system_call_of : List ℕ → SystemCall
system_call_of regs = record { number = reg regs 0; a0 = reg regs 16; a1 = reg regs 17; a2 = reg regs 18 }

-- success leaves the count in R0 and 0 in R19, an error its number in R0 and 1 in R19
abbrev pub answered : Answer → List ℕ → List ℕ
answered (Read n) regs = put (put regs 0 n) 19 0
answered (Wrote n) regs = put (put regs 0 n) 19 0
answered (Error n) regs = put (put regs 0 n) 19 1
answered (Exit v) regs = regs

-- a system call's answer in the registers
abbrev pub called : Answer → List ℕ → List Block → ℕ → Traffic → Called
called (Read n) regs mem unique traffic = continues (answered (Read n) regs) mem unique traffic
called (Wrote n) regs mem unique traffic = continues (answered (Wrote n) regs) mem unique traffic
called (Error n) regs mem unique traffic = continues (answered (Error n) regs) mem unique traffic
called (Exit v) regs mem unique traffic = exits v

abbrev pub after_serve : List ℕ → ℕ → Served → Called
after_serve regs unique s = called s.answer regs s.mem unique s.traffic
