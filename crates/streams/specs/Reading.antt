-- How much was read, whether or not a read failed.
use Rattle.std.specs.Prelude.{ℕ, Result, Ok, Err}
use Rattle.streams.specs.declared.reading.ReadFailed.{ReadFailed}

-- the bytes that were read, before a read failed if one did
abbrev pub bytes_read : Result ℕ ReadFailed → ℕ
bytes_read (Ok n) = n
bytes_read (Err failed) = failed.bytes
