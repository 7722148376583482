-- What the code of a call did, against the definition of the call, where devices may tell nothing.
use Rattle.std.specs.Prelude.{◌≡◌, ⊤, ℕ, ◌<◌, ◌≤◌, true, IsTrue, List, ◌++◌, length, take, drop, Option, Some, None}
use Rattle.std.specs.Prelude.{Result, Ok, Err}
use Rattle.std.specs.Io.KnownBytes.{Appends}
use Rattle.alpha_words.specs.declared.PalCall.{PalCall}
use Rattle.alpha_words.specs.declared.PalCall.TheVariants.{Callsys}
use Rattle.alpha_words.specs.Regs.{reg}
use Rattle.alpha_io.specs.Faults.{Faulted}
use Rattle.alpha_io.specs.History.{Reply, IsRead, FailsToRead}
use Rattle.alpha_io.specs.Supply.{Supply}
use Rattle.alpha_io.specs.Written.{WritesPrefix}
use Rattle.alpha_mem.specs.Intent.{Load, Store}
use Rattle.alpha_mem.specs.Block.{Block, shapes, within}
use Rattle.alpha_mem.specs.Memory.{bytes_at, write_bytes, IsLayout}
use Rattle.alpha_pal.specs.declared.serve.SystemCall.{SystemCall}
use Rattle.alpha_pal.specs.declared.fault.Fault.{Fault}
use Rattle.alpha_pal.specs.declared.fault.Fault.TheVariants.{Input, Output, Notes}
use Rattle.alpha_pal.specs.declared.serve.Answer.{Answer}
use Rattle.alpha_pal.specs.declared.serve.Answer.TheVariants.{Read, Wrote, Error, Exit as Exits}
use Rattle.alpha_pal.specs.declared.pal_end.PalEnd.{PalEnd}
use Rattle.alpha_pal.specs.declared.pal_end.PalEnd.TheVariants.{Goes, Exit, Signal}
use Rattle.alpha_pal.specs.declared.pal_end.Passed.{Passed}
use Rattle.alpha_pal.specs.declared.pal_end.Passed.TheVariants.{Nothing, Took, Put}
use Rattle.alpha_pal.specs.Kernel.{KernelState, call_frame}
use Rattle.alpha_pal.specs.Call.{Traffic, Silent, asked_in, given_in, put_in, continues, exits, signals, call}
use Rattle.alpha_pal.specs.Call as traffics
use Rattle.alpha_pal.specs.Serve.{read_call, write_call, input_descriptor, output_descriptor, served, serve}
use Rattle.alpha_pal.specs.Serve.{system_call_of, answered}
use Rattle.alpha_pal.specs.Passed.{IsPassed}

-- where the input was told, it was `taken` and then `rest`, and `rest` is left
abbrev pub Takes : Option (List ℕ) → Option (List ℕ) → List ℕ → List ℕ → Type 0
Takes None now taken rest = ⊤
Takes (Some xs) now taken rest = (xs ≡ taken ++ rest) × (now ≡ Some rest)

-- where the input is told, this was read of it, and what follows is left
abbrev pub ReadsTold : Option (List ℕ) → Traffic → Option (List ℕ) → Type 0
ReadsTold None traffic left = ⊤
ReadsTold (Some input) traffic left =
    (given_in traffic ≡ take (asked_in traffic) input) × (left ≡ Some (drop (length (given_in traffic)) input))

-- told or not, the source was asked for just that
abbrev pub Answers : List Reply → Traffic → List Reply → Type 0
Answers old (traffics.Read asked given) new = IsRead old new asked given
Answers old (traffics.Wrote bytes) new = new ≡ old
Answers old Silent new = new ≡ old

-- this was read
pub record Reads (old : Supply) (traffic : Traffic) (new : Supply) : Type 0 where
  pub told : ReadsTold old.left traffic new.left
  pub answers : Answers old.replies traffic new.replies

-- what an answer to a request says that it took or put
abbrev pub passed_by : SystemCall → Answer → Passed
passed_by r (Read n) = Took r.a1 n
passed_by r (Wrote n) = Put r.a1 n
passed_by r (Error n) = Nothing
passed_by r (Exits v) = Nothing

-- The answer and the memory are those of the definition, where what was given is there to be read. What passed went
-- through the devices, and stands in memory.
pub record Serves
    (r : SystemCall) (answer : Answer) (mem mem' : List Block)
    (supply supply' : Supply) (written written' : Option (List ℕ)) : Type 0 where
  pub traffic : Traffic
  pub is : serve r mem (given_in traffic) ≡ served answer mem' traffic
  pub fed : Reads supply traffic supply'
  pub wrote : Appends written written' (put_in traffic)
  pub passes : IsPassed (passed_by r answer) mem' (given_in traffic) (put_in traffic)

-- a good read whose source failed: the bytes taken so far are in memory, whose blocks lie apart, and fewer than were
-- asked for
pub record TakesPart (r : SystemCall) (mem mem' : List Block) (old new : Supply) : Type 0 where
  pub layout : IsLayout (shapes mem)
  pub number : r.number ≡ read_call
  pub descriptor : r.a0 ≡ input_descriptor
  pub range : IsTrue (within (shapes mem) Store r.a1 r.a2)
  pub taken : List ℕ
  pub rest : List ℕ
  pub took : Takes old.left new.left taken rest
  pub less : length taken < r.a2
  pub there : mem' ≡ write_bytes mem r.a1 taken
  pub calls : FailsToRead old.replies new.replies taken

-- a good write whose sink failed: a prefix of the bytes was put
pub record PutsPart (r : SystemCall) (mem : List Block) (written written' : Option (List ℕ)) : Type 0 where
  pub number : r.number ≡ write_call
  pub descriptor : r.a0 ≡ output_descriptor
  pub range : IsTrue (within (shapes mem) Load r.a1 r.a2)
  pub prefix : WritesPrefix written written' (bytes_at mem r.a1 r.a2)

-- a system call's effect on memory, input and output, by its result
abbrev pub ServeEffect : SystemCall → Result Answer Fault → List Block → List Block
    → Supply → Supply → Option (List ℕ) → Option (List ℕ) → Type 0
ServeEffect r (Ok (Read n)) mem mem' supply supply' written written' =
    Serves r (Read n) mem mem' supply supply' written written'
ServeEffect r (Ok (Wrote n)) mem mem' supply supply' written written' =
    Serves r (Wrote n) mem mem' supply supply' written written'
ServeEffect r (Ok (Error n)) mem mem' supply supply' written written' =
    Serves r (Error n) mem mem' supply supply' written written'
ServeEffect r (Ok (Exits v)) mem mem' supply supply' written written' =
    ((input : List ℕ) → serve r mem input ≡ served (Exits v) mem Silent) × (mem' ≡ mem) × (supply' ≡ supply)
    × (written' ≡ written)
ServeEffect r (Err Input) mem mem' supply supply' written written' =
    TakesPart r mem mem' supply supply' × (written' ≡ written)
ServeEffect r (Err Output) mem mem' supply supply' written written' =
    PutsPart r mem written written' × (mem' ≡ mem) × (supply' ≡ supply)
ServeEffect r (Err Notes) mem mem' supply supply' written written' = ⊥

-- how a call ends, by a system call's result
abbrev pub end_of : SystemCall → Result Answer Fault → Result PalEnd Fault
end_of r (Ok (Read n)) = Ok (Goes (passed_by r (Read n)))
end_of r (Ok (Wrote n)) = Ok (Goes (passed_by r (Wrote n)))
end_of r (Ok (Error n)) = Ok (Goes (passed_by r (Error n)))
end_of r (Ok (Exits v)) = Ok (Exit v)
end_of r (Err fault) = Err fault

-- the registers after a system call, which a fault leaves as they were
abbrev pub regs_after : Result Answer Fault → List ℕ → List ℕ
regs_after (Ok answer) regs = answered answer regs
regs_after (Err fault) regs = regs

-- what a call sees: registers, memory, the unique value, and what the devices tell
pub record CallView : Type 0 where
  pub regs : List ℕ
  pub mem : List Block
  pub unique : ℕ
  pub supply : Supply
  pub written : Option (List ℕ)

abbrev pub seen : List ℕ → List Block → ℕ → Supply → Option (List ℕ) → CallView
seen regs mem unique supply written =
    record { regs = regs; mem = mem; unique = unique; supply = supply; written = written }

-- Registers, memory and unique value are those of the definition, where what was given is there to be read. What passed
-- went through the devices, and stands in memory where the call says so.
pub record CallReturns (function : PalCall) (passed : Passed) (old new : CallView) : Type 0 where
  pub traffic : Traffic
  pub is : call function old.regs old.mem old.unique (given_in traffic) ≡ continues new.regs new.mem new.unique traffic
  pub fed : Reads old.supply traffic new.supply
  pub wrote : Appends old.written new.written (put_in traffic)
  pub passes : IsPassed passed new.mem (given_in traffic) (put_in traffic)

-- the same where the input is told: all of it is there to be read
pub record CallReturnsTold (function : PalCall) (old new : CallView) (left : List ℕ) : Type 0 where
  pub traffic : Traffic
  pub is : call function old.regs old.mem old.unique left ≡ continues new.regs new.mem new.unique traffic
  pub took : new.supply.left ≡ Some (drop (length (given_in traffic)) left)
  pub wrote : Appends old.written new.written (put_in traffic)

-- a call's effect, by its end
abbrev pub CallEffect : PalCall → Result PalEnd Fault → CallView → CallView → Type 0
CallEffect function (Ok (Goes passed)) old new = CallReturns function passed old new
CallEffect function (Ok (Exit v)) old new =
    ((input : List ℕ) → call function old.regs old.mem old.unique input ≡ exits v) × (new ≡ old)
CallEffect function (Ok (Signal code)) old new =
    ((input : List ℕ) → call function old.regs old.mem old.unique input ≡ signals code) × (new ≡ old)
CallEffect function (Err Input) old new =
    (function ≡ Callsys)
    × TakesPart (system_call_of old.regs) old.mem new.mem old.supply new.supply
    × (new ≡ record old { mem = new.mem; supply = new.supply })
CallEffect function (Err Output) old new =
    (function ≡ Callsys)
    × PutsPart (system_call_of old.regs) old.mem old.written new.written
    × (new ≡ record old { written = new.written })
CallEffect function (Err Notes) old new = ⊥

-- the input's count of faults rose exactly where the input failed
abbrev pub InputCause : {A : Type 0} → Result A Fault → ℕ → ℕ → Type 0
InputCause (Ok answer) before now = now ≡ before
InputCause (Err Input) before now = (before ≤ now) × Faulted before now
InputCause (Err Output) before now = now ≡ before
InputCause (Err Notes) before now = now ≡ before

-- the sink's count of faults rose exactly where the output failed
abbrev pub SinkCause : {A : Type 0} → Result A Fault → ℕ → ℕ → Type 0
SinkCause (Ok answer) before now = now ≡ before
SinkCause (Err Input) before now = now ≡ before
SinkCause (Err Output) before now = (before ≤ now) × Faulted before now
SinkCause (Err Notes) before now = now ≡ before

-- the kernel after a call: a system call leaves its frame and the stack pointer that it saved
abbrev pub kernel_after : PalCall → ℕ → List ℕ → KernelState → KernelState
kernel_after Callsys next regs k =
    record { user = true; frame = call_frame next regs; user_stack = reg regs 30 }
kernel_after _ next regs k = k
