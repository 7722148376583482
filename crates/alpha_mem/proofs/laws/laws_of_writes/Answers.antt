use Rattle.alpha_mem.proofs.LawLemmas.{shapes-write_bytes, IsMemory-write_bytes, byte_at-write_bytes_outside}
use Rattle.alpha_mem.proofs.LawLemmas.{byte_at-write_bytes_inside, write_bytes-write_bytes, bytes_at-write_bytes}
use Rattle.alpha_mem.proofs.laws.laws_of_writes.Goals as goal

pub returns-clause-shapes : goal.returns-clause-shapes
returns-clause-shapes c = shapes-write_bytes

pub returns-clause-good : goal.returns-clause-good
returns-clause-good c = IsMemory-write_bytes

pub returns-clause-outside : goal.returns-clause-outside
returns-clause-outside c = byte_at-write_bytes_outside

pub returns-clause-inside : goal.returns-clause-inside
returns-clause-inside c = byte_at-write_bytes_inside

pub returns-clause-joined : goal.returns-clause-joined
returns-clause-joined c = write_bytes-write_bytes

pub returns-clause-read_back : goal.returns-clause-read_back
returns-clause-read_back c = bytes_at-write_bytes
