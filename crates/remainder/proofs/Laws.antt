-- What a message leaves in a register that it is put through bit by bit (document 02, §11). specs/Remainder has the words of the statements.
use mathlib.Core.Path.{◌≡◌}
use mathlib.Core.Bool.{Bool}
use mathlib.Core.List.{List, [], ◌++◌}
use Prim.Native.Nat.{ℕ, ◌*◌, ◌≤◌}
use lib.ListN.{length}
use Rattle.machine.specs.declared.Registers.{Registers}
use Rattle.machine.specs.declared.Machine.{Machine}
use Rattle.machine.specs.declared.Words.{Words}
use Rattle.run.specs.declared.Ending.TheVariants.{Done}
use Rattle.run.specs.declared.Ran.{Ran}
use Rattle.run.specs.Splitting.{words_per_report, cycle_words}
use Rattle.run.specs.Runs.{run_of, Gives}
use Rattle.run.specs.Leading.{Leads}
use Rattle.remainder.specs.Remainder.{Direction, Feeds, Ready, Holds}
use Rattle.remainder.proofs.Messages.{at_start_lem, through, run_through}

-- A message of any length, its cycles in sequence: all are accepted, and then the register has the remainder. One theorem says it of CRCF
-- and, in the mirror, of CRCR.
pub remainder_left : (d : Direction) (k start polynomial : ℕ) (message : List Bool) (cycles : List Words) (m : Machine)
    → Ready d k start polynomial m.registers → Feeds d k message cycles
    → (n : Machine) × Leads m cycles n × Holds d k start polynomial message m.registers n.registers
remainder_left d k start polynomial message cycles m ready feeds =
    through d k start polynomial m.registers ready [] message cycles m (at_start_lem d k start polynomial m.registers ready) feeds

-- A message of at most 2,048 bits in one run, with budget and room for its reports: any answer that meets the statement of `run` says that all
-- is done, and its machine has the remainder.
pub remainder_run : (d : Direction) (k start polynomial : ℕ) (message : List Bool) (cycles : List Words) (m : Machine)
    (budget : ℕ) (reports after : List ℕ) (r : Ran)
    → Ready d k start polynomial m.registers → Feeds d k message cycles
    → length message ≤ 2048 → 2 * length message ≤ budget → words_per_report * (2 * length message) ≤ length reports
    → Gives m (run_of m (cycle_words cycles) budget (length reports)) r reports after
    → (r.ending ≡ Done) × (r.accepted ≡ 2 * length message) × Holds d k start polynomial message m.registers r.machine.registers
remainder_run d k start polynomial message cycles m budget reports after r ready feeds =
    run_through d k start polynomial m.registers ready [] message cycles m (at_start_lem d k start polynomial m.registers ready) feeds budget reports after r

-- A longer message goes through piece by piece, in sequence or in runs: where a machine holds the remainder of some bits, the cycles of more bits
-- lead to the remainder of all.
pub piece_left : (d : Direction) (k start polynomial : ℕ) (bits more : List Bool) (cycles : List Words) (before : Registers) (m : Machine)
    → Ready d k start polynomial before → Holds d k start polynomial bits before m.registers → Feeds d k more cycles
    → (n : Machine) × Leads m cycles n × Holds d k start polynomial (bits ++ more) before n.registers
piece_left d k start polynomial bits more cycles before m ready holds feeds = through d k start polynomial before ready bits more cycles m holds feeds

pub piece_run : (d : Direction) (k start polynomial : ℕ) (bits more : List Bool) (cycles : List Words) (before : Registers) (m : Machine)
    (budget : ℕ) (reports after : List ℕ) (r : Ran)
    → Ready d k start polynomial before → Holds d k start polynomial bits before m.registers → Feeds d k more cycles
    → length more ≤ 2048 → 2 * length more ≤ budget → words_per_report * (2 * length more) ≤ length reports
    → Gives m (run_of m (cycle_words cycles) budget (length reports)) r reports after
    → (r.ending ≡ Done) × (r.accepted ≡ 2 * length more) × Holds d k start polynomial (bits ++ more) before r.machine.registers
piece_run d k start polynomial bits more cycles before m budget reports after r ready holds feeds =
    run_through d k start polynomial before ready bits more cycles m holds feeds budget reports after r
