-- What a call did to a sink and to the block of bytes that wait to be put to it.
use Rattle.std.specs.Prelude.{◌≡◌, ℕ, ◌+◌, nat_le, if◌then◌else◌, List, [], ◌++◌, length, Option}
use Rattle.alpha_io.specs.declared.sink.Sink.{Ghosts}
use Rattle.alpha_io.specs.SinkChange.{SinkChange, sink_change_by, Puts, WritesPartly, HasFailed}
use Rattle.alpha_debug.specs.declared.block.TheConstants.{BLOCK_ROOM}

-- what the sink got, and the bytes in the block before the call and after it
pub record OutputChange : Type 0 where
  pub sink : SinkChange
  pub old : List ℕ
  pub new : List ℕ

-- by what the sink tells and its count, of a sink with its block before and after
abbrev pub output_change_by : {K : Type 0} → (K → Option (List ℕ)) → (K → ℕ) → K × List ℕ → K × List ℕ → OutputChange
output_change_by written faults old new =
    record { sink = sink_change_by written faults old.0 new.0; old = old.1; new = new.1 }

-- by the ghosts of the sink's type
abbrev pub output_change : {K : Type 0} → Ghosts K → K → List ℕ → K → List ℕ → OutputChange
output_change g old waited new waits = output_change_by g.written g.faults (old, waited) (new, waits)

-- these bytes were taken without a fault: of all that waited and these behind it the first were put, and the others
-- wait
pub record AppendsOutput (s : OutputChange) (bytes : List ℕ) : Type 0 where
  pub put : List ℕ
  pub puts : Puts s.sink put
  pub whole : s.old ++ bytes ≡ put ++ s.new

-- the sink failed, with a prefix of these bytes written
pub record CutShort (s : SinkChange) (bytes : List ℕ) : Type 0 where
  pub part : WritesPartly s bytes
  pub failed : HasFailed s

-- the sink failed, with a prefix written of what waited and of these bytes behind it
abbrev pub SinkFailsWith : OutputChange → List ℕ → Type 0
SinkFailsWith s bytes = CutShort s.sink (s.old ++ bytes)

-- ---- which bytes wait

-- bytes that fit behind those that wait wait too; else those are put first, and with them the others where these are
-- more than a block holds
abbrev pub if_fits : List ℕ → List ℕ → List ℕ → List ℕ → List ℕ → List ℕ
if_fits waits bytes behind alone past =
    if nat_le (length waits + length bytes) BLOCK_ROOM then behind
    else if nat_le (length bytes) BLOCK_ROOM then alone
    else past

-- what is put where some bytes come behind those that wait
abbrev pub put_for : List ℕ → List ℕ → List ℕ
put_for waits bytes = if_fits waits bytes [] waits (waits ++ bytes)

-- what waits then
abbrev pub waits_for : List ℕ → List ℕ → List ℕ
waits_for waits bytes = if_fits waits bytes (waits ++ bytes) bytes []
