-- What a PAL call does: the calls' rules as functions of registers, memory, the unique value, and what there is to be
-- read.
use Rattle.std.specs.Prelude.{ℕ, ◌==◌, not, if◌then◌else◌, List, [], length, take}
use Rattle.alpha_words.specs.declared.PalCall.{PalCall}
use Rattle.alpha_words.specs.declared.PalCall.TheVariants.{Bpt, Bugchk, Callsys, Imb, Rdunique, Wrunique, Gentrap}
use Rattle.alpha_words.specs.Regs.{reg, put}
use Rattle.alpha_mem.specs.Intent.{Load, Store}
use Rattle.alpha_mem.specs.Block.{Block, shapes, within}
use Rattle.alpha_mem.specs.Memory.{bytes_at, write_bytes}

-- What passed between a program and the world: nothing; so many bytes were asked for, and these were given; or these
-- were put.
pub data Traffic : Type 0 where
  Silent : Traffic
  Read : (asked : ℕ) (given : List ℕ) → Traffic
  Wrote : (bytes : List ℕ) → Traffic

-- how many bytes were asked for, the bytes that were given, and those that were put
abbrev pub asked_in : Traffic → ℕ
asked_in (Read asked given) = asked
asked_in traffic = 0

abbrev pub given_in : Traffic → List ℕ
given_in (Read asked given) = given
given_in traffic = []

abbrev pub put_in : Traffic → List ℕ
put_in (Wrote bytes) = bytes
put_in traffic = []

-- what a PAL call leaves where the program goes on: registers, memory, the unique value, and what passed; or it exits
-- with a value, or a signal with a code
pub data Called : Type 0 where
  continues : List ℕ → List Block → ℕ → Traffic → Called
  exits : ℕ → Called
  signals : ℕ → Called

-- a system call's result in R0, and in R19 whether it is an error's number
abbrev pub answers : ℕ → ℕ → List ℕ → List Block → ℕ → Traffic → Called
answers result failed regs mem unique traffic = continues (put (put regs 0 result) 19 failed) mem unique traffic

-- read takes bytes of the input to memory until there are as many as asked for, or the input has ended. Another
-- descriptor than 0 is error 9, and a bad range error 14.
abbrev pub read : ℕ → ℕ → ℕ → List ℕ → List Block → ℕ → List ℕ → Called
read descriptor at count regs mem unique input =
    if not (descriptor == 0) then answers 9 1 regs mem unique Silent else
    if not (within (shapes mem) Store at count) then answers 14 1 regs mem unique Silent else
    answers (length (take count input)) 0 regs (write_bytes mem at (take count input)) unique
    (Read count (take count input))

-- write puts bytes of memory to the output, whose descriptor is 1
abbrev pub write : ℕ → ℕ → ℕ → List ℕ → List Block → ℕ → Called
write descriptor at count regs mem unique =
    if not (descriptor == 1) then answers 9 1 regs mem unique Silent else
    if not (within (shapes mem) Load at count) then answers 14 1 regs mem unique Silent else
    answers count 0 regs mem unique (Wrote (bytes_at mem at count))

-- the system calls by their numbers, of which there are no others: 1 is exit, 3 is read, 4 is write
abbrev pub callsys : ℕ → List ℕ → List Block → ℕ → List ℕ → Called
callsys number regs mem unique input =
    if number == 1 then exits (reg regs 16) else
    if number == 3 then read (reg regs 16) (reg regs 17) (reg regs 18) regs mem unique input else
    if number == 4 then write (reg regs 16) (reg regs 17) (reg regs 18) regs mem unique else
    answers 78 1 regs mem unique Silent

-- the PAL calls
unfoldable pub call : PalCall → List ℕ → List Block → ℕ → List ℕ → Called
call Bpt regs mem unique input = signals 0
call Bugchk regs mem unique input = signals 1
call Gentrap regs mem unique input = signals 2
call Imb regs mem unique input = continues regs mem unique Silent
call Rdunique regs mem unique input = continues (put regs 0 unique) mem unique Silent
call Wrunique regs mem unique input = continues regs mem (reg regs 16) Silent
call Callsys regs mem unique input = callsys (reg regs 0) regs mem unique input
