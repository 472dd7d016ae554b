-- A message goes through: after the two cycles of each bit the register holds the remainder of the bits so far.
use mathlib.Core.Path.{◌≡◌, refl, ap, ◌∙◌}
use mathlib.Core.Bool.{Bool}
use mathlib.Core.List.{List, [], ◌∷◌, ◌++◌, append-nil, append_assoc}
use Prim.Native.Nat.{ℕ, ◌*◌, ◌%◌, ◌≤◌}
use native.Mathlib.Omega.{arith}
use lib.ListN.{length, get_or, set, length-set}
use lib.Seq.{get_or-set_same, get_or-set_other}
use Rattle.alu.specs.Operations.{crc_forward}
use Rattle.machine.specs.declared.Registers.{Registers}
use Rattle.machine.specs.declared.Machine.{Machine}
use Rattle.machine.specs.declared.Words.{Words}
use Rattle.machine.specs.Cycles.{cycle_of}
use Rattle.run.specs.declared.Ending.TheVariants.{Done}
use Rattle.run.specs.declared.Ran.{Ran}
use Rattle.run.specs.Splitting.{words_per_report, cycle_words}
use Rattle.run.specs.Runs.{run_of, Gives}
use Rattle.run.specs.Leading.{Leads}
use Rattle.run.proofs.Leading.{leads_answer}
use Rattle.remainder.specs.Remainder.{put_in_link, Direction, step_on, Asks, Feeds, empty, next, oriented, Ready, Holds}
use Rattle.remainder.proofs.Division.{no_bits, one_bit}
use Rattle.remainder.proofs.Cycles.{Put, put, Stepped, stepped}

-- two cycles for each bit
feeds_length : (d : Direction) (k : ℕ) (message : List Bool) (cycles : List Words) → Feeds d k message cycles → length cycles ≡ 2 * length message
feeds_length d k [] [] empty = refl
feeds_length d k [] (x ∷ _) feeds = elim feeds [ ]
feeds_length d k (b ∷ message) [] feeds = elim feeds [ ]
feeds_length d k (b ∷ message) (x ∷ []) feeds = elim feeds [ ]
feeds_length d k (b ∷ message) (x ∷ y ∷ cycles) (next puts steps feeds) = omega (arith, feeds_length d k message cycles feeds)

module _ (d : Direction) (k start polynomial : ℕ) (before : Registers) (ready : Ready d k start polynomial before) where
  -- after some bits
  abbrev After : List Bool → Registers → Type 0
  After bits r = Holds d k start polynomial bits before r

  pub at_start_lem : After [] before
  at_start_lem = record {
    remainder = start;
    divided = no_bits polynomial start ready.start_lt;
    register = ready.register;
    others = λ j h away. refl;
    size = ready.size;
    acc = refl;
    waiting = ready.waiting;
  }

  -- one bit more
  module _ (bits : List Bool) (b : Bool) (m : Machine) (x y : Words) (held : After bits m.registers) (puts : Asks (put_in_link b) x) (steps : Asks (step_on k d) y) where
    abbrev middle : Machine
    middle = (cycle_of m x).machine

    abbrev end : Machine
    end = (cycle_of middle y).machine

    abbrev left : ℕ
    left = (crc_forward 16 held.remainder polynomial middle.registers.status).result

    first : Put b m x
    first = put m x held.waiting b puts

    second : Stepped d k left middle y
    second =
        stepped d k polynomial held.remainder middle y first.waiting steps ready.polynomial_lt held.divided.small
        (ap (λ (l : List ℕ). get_or l (k % 32) 0) first.ram ∙ held.register) (first.acc ∙ held.acc ∙ ready.acc)

    ram_is : end.registers.ram ≡ set m.registers.ram (k % 32) (oriented d left)
    ram_is = second.ram ∙ ap (λ (l : List ℕ). set l (k % 32) (oriented d left)) first.ram

    one_more_lem : After (bits ++ b ∷ []) end.registers
    one_more_lem = record {
      remainder = left;
      divided = one_bit polynomial start bits b held.remainder middle.registers.status ready.polynomial_lt first.link held.divided;
      register =
          ap (λ (l : List ℕ). get_or l (k % 32) 0) ram_is
          ∙ get_or-set_same m.registers.ram (k % 32) (oriented d left) 0 (omega (arith, held.size));
      others = λ j h away.
          ap (λ (l : List ℕ). get_or l (j % 32) 0) ram_is
          ∙ get_or-set_other m.registers.ram (k % 32) (j % 32) (oriented d left) 0 (λ same. away (omega (arith, ready.address)))
          ∙ held.others j h away;
      size = ap length ram_is ∙ length-set m.registers.ram (k % 32) (oriented d left) ∙ held.size;
      acc = second.acc ∙ first.acc ∙ held.acc;
      waiting = second.waiting;
    }

  -- all of them, in sequence
  pub through : (bits message : List Bool) (cycles : List Words) (m : Machine) → After bits m.registers → Feeds d k message cycles
      → (n : Machine) × Leads m cycles n × After (bits ++ message) n.registers
  through bits [] [] m held empty = (m, refl, rw append-nil held)
  through bits [] (x ∷ _) m held feeds = elim feeds [ ]
  through bits (b ∷ message) [] m held feeds = elim feeds [ ]
  through bits (b ∷ message) (x ∷ []) m held feeds = elim feeds [ ]
  through bits (b ∷ message) (x ∷ y ∷ cycles) m held (next puts steps feeds) =
      let more = through (bits ++ b ∷ []) message cycles (end bits b m x y held puts steps) (one_more_lem bits b m x y held puts steps) feeds in (
        more.0,
        ((first bits b m x y held puts steps).accepts, ((second bits b m x y held puts steps).accepts, more.1)),
        rw append_assoc at more.2,
      )

  -- and in a run
  pub run_through : (bits message : List Bool) (cycles : List Words) (m : Machine) → After bits m.registers → Feeds d k message cycles
      → (budget : ℕ) (reports after : List ℕ) (r : Ran)
      → length message ≤ 2048 → 2 * length message ≤ budget → words_per_report * (2 * length message) ≤ length reports
      → Gives m (run_of m (cycle_words cycles) budget (length reports)) r reports after
      → (r.ending ≡ Done) × (r.accepted ≡ 2 * length message) × After (bits ++ message) r.machine.registers
  run_through bits message cycles m held feeds budget reports after r few enough fits gives =
      let long = feeds_length d k message cycles feeds in
      let led = through bits message cycles m held feeds in
      let ran = leads_answer m led.0 cycles budget reports after r held.waiting led.1 (omega arith) (omega arith) (omega arith) gives in
      (ran.0, ran.1 ∙ long, rw ran.2 led.2)
