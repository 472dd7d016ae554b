-- One cycle of each of two runs that differ only in upper bytes: the same answer, the same low bytes after it, and upper bytes kept.
use mathlib.Core.Path.{◌≡◌, refl, sym, ap, ◌∙◌, subst, subst⁻¹}
use mathlib.Core.Bool.{Bool, true, false}
use mathlib.Core.List.{List, [], ◌∷◌, map}
use Prim.Native.Nat.{ℕ, zero, suc, ◌%◌}
use lib.Dec.{eqb}
use lib.ListN.{get_or, set, get_or-map}
use borrow.Author.Tests.{eqb-true}
use Rattle.choice.specs.Pick.{pick}
use Rattle.choice.specs.Checks.{refusal}
use Rattle.alu.specs.declared.Mode.{Mode}
use Rattle.alu.specs.declared.Mode.TheVariants.{Byte}
use Rattle.alu.specs.Width.{width_of, write_back}
use Rattle.alu.proofs.Written.{written_low}
use Rattle.isa.specs.declared.Named.{Named}
use Rattle.isa.specs.Fields.{mode_of}
use Rattle.isa.specs.Words.{named_by, takes_immediate}
use Rattle.plan.specs.declared.Destination.{Destination}
use Rattle.plan.specs.declared.Destination.TheVariants.{ToY, ToAcc, ToRam, ToStatus, ToAccAndStatus}
use Rattle.plan.specs.declared.Plan.{Plan}
use Rattle.plan.specs.Plans.{plan_of}
use Rattle.machine.specs.declared.Waiting.{Waiting}
use Rattle.machine.specs.declared.Waiting.TheVariants.{Nothing, Held}
use Rattle.machine.specs.declared.Registers.{Registers}
use Rattle.machine.specs.declared.Machine.{Machine}
use Rattle.machine.specs.declared.Words.{Words}
use Rattle.machine.specs.declared.View.{View}
use Rattle.machine.specs.declared.Effect.{Effect}
use Rattle.machine.specs.Pins.{ien_high, dle_high}
use Rattle.machine.specs.Judging.{Refuse, Wait, begin_checks, checks_of, word_about, accepted_as, perform, judgement_of}
use Rattle.machine.specs.Seeing.{view_of}
use Rattle.machine.specs.Acting.{effect_of}
use Rattle.machine.specs.Settling.{latched, ram_after, acc_after, settled_of, UpperBytesKept}
use Rattle.machine.specs.Cycles.{Turned, turn_from, performed_turn, turn_of, cycle_of}
use Rattle.machine.proofs.Kept.{settled_ram_lem, settled_acc_lem}
use Rattle.demands.specs.Isolation.{low_byte, SameLowBytes, ByteMark, LinesAlike, CyclesAlike}

-- what a byte write leaves in low bytes
map_set : (f : ℕ → ℕ) (l : List ℕ) (i x : ℕ) → map f (set l i x) ≡ set (map f l) i (f x)
map_set f [] i x = refl
map_set f (y ∷ l) zero x = refl
map_set f (y ∷ l) (suc i) x = ap (λ (r : List ℕ). f y ∷ r) (map_set f l i x)

ram_low : (d : Destination) (k y : ℕ) (a b : List ℕ) → map low_byte a ≡ map low_byte b → map low_byte (ram_after d Byte k y a) ≡ map low_byte (ram_after d Byte k y b)
ram_low ToY k y a b e = e
ram_low ToAcc k y a b e = e
ram_low ToRam k y a b e = stored a ∙ ap (λ (l : List ℕ). set l (k % 32) (low_byte y)) e ∙ sym (stored b)
  where
    stored : (l : List ℕ) → map low_byte (set l (k % 32) (write_back (width_of Byte) (get_or l (k % 32) 0) y)) ≡ set (map low_byte l) (k % 32) (low_byte y)
    stored l =
        map_set low_byte l (k % 32) (write_back (width_of Byte) (get_or l (k % 32) 0) y)
        ∙ ap (λ (x : ℕ). set (map low_byte l) (k % 32) x) (written_low (width_of Byte) (get_or l (k % 32) 0) y)
ram_low ToStatus k y a b e = e
ram_low ToAccAndStatus k y a b e = e

acc_low : (d : Destination) (y a b : ℕ) → low_byte a ≡ low_byte b → low_byte (acc_after d Byte y a) ≡ low_byte (acc_after d Byte y b)
acc_low ToY y a b e = e
acc_low ToAcc y a b e = written_low (width_of Byte) a y ∙ sym (written_low (width_of Byte) b y)
acc_low ToRam y a b e = e
acc_low ToStatus y a b e = e
acc_low ToAccAndStatus y a b e = written_low (width_of Byte) a y ∙ sym (written_low (width_of Byte) b y)

-- what relates both choices relates the chosen
chosen : {A : Type 0} (R : A → A → Type 0) (b : Bool) (x y x' y' : A) → R x x' → R y y' → R (pick b x y) (pick b x' y')
chosen R true x y x' y' p q = p
chosen R false x y x' y' p q = q

settled_alike : (k : ℕ) (a b : Registers) (e : Effect) (pins : ℕ) → SameLowBytes a b → SameLowBytes (settled_of Byte k a e pins) (settled_of Byte k b e pins)
unfolding settled_of
settled_alike k a b e pins s = record {
  ram = chosen (λ (x y : List ℕ). map low_byte x ≡ map low_byte y) (ien_high pins) a.ram _ b.ram _ s.ram (ram_low e.destination k e.result a.ram b.ram s.ram);
  acc = chosen (λ (x y : ℕ). low_byte x ≡ low_byte y) (ien_high pins) a.acc _ b.acc _ s.acc (acc_low e.destination e.result a.acc b.acc s.acc);
  latch = s.latch;
  status = rw s.status;
  waiting = refl;
}

latched_alike : (a b : Registers) (x y pins : ℕ) → SameLowBytes a b → low_byte x ≡ low_byte y → SameLowBytes (latched a x pins) (latched b y pins)
latched_alike a b x y pins s e = record {
  ram = s.ram;
  acc = s.acc;
  latch = chosen (λ (u v : ℕ). low_byte u ≡ low_byte v) (dle_high pins) x a.latch y b.latch e s.latch;
  status = s.status;
  waiting = s.waiting;
}

-- a byte instruction sees the same in both
view_same : (k : ℕ) (a b : Registers) (x y : ℕ) → SameLowBytes a b → low_byte x ≡ low_byte y → view_of Byte k a x ≡ view_of Byte k b y
unfolding view_of
view_same k a b x y s e = λ i. record { ram = register i; acc = s.acc i; latch = s.latch i; immediate = e i; status = s.status i }
  where
    register : low_byte (get_or a.ram (k % 32) 0) ≡ low_byte (get_or b.ram (k % 32) 0)
    register =
        sym (get_or-map low_byte a.ram (k % 32) 0)
        ∙ ap (λ (l : List ℕ). get_or l (k % 32) 0) s.ram
        ∙ get_or-map low_byte b.ram (k % 32) 0

-- two turns, from registers a and b at the start
pub record TurnsAlike (a b : Registers) (t u : Turned) : Type 0 where
  pub answer : t.answer ≡ u.answer
  pub ends : SameLowBytes t.machine.registers u.machine.registers
  pub first : UpperBytesKept a t.machine.registers
  pub second : UpperBytesKept b u.machine.registers

pub unchanged : (a : Registers) → UpperBytesKept a a
unchanged a = record { ram = refl; acc = refl }

-- a performed instruction; r and s are a and b with D latched
module _ (i : Named) (p : Plan) (r s : Registers) (pins : ℕ) (same : SameLowBytes r s) where
  abbrev turn : Mode → Registers → Effect → Turned
  turn mode x e = turn_from i p x (settled_of mode p.register x e pins) e pins

  by_effect : (e : Effect) → TurnsAlike r s (turn Byte r e) (turn Byte s e)
  unfolding settled_of
  by_effect e = record {
    answer = rw same.status;
    ends = settled_alike p.register r s e pins same;
    first = record { ram = settled_ram_lem p.register r e pins; acc = settled_acc_lem p.register r e pins };
    second = record { ram = settled_ram_lem p.register s e pins; acc = settled_acc_lem p.register s e pins };
  }

  performed_alike : (x y : ℕ) → p.mode ≡ Byte → low_byte x ≡ low_byte y → TurnsAlike r s (performed_turn i p r x pins) (performed_turn i p s y pins)
  performed_alike x y m e =
      subst⁻¹ (λ (z : Mode). TurnsAlike r s (turn z r (effect_of p (view_of z p.register r x))) (turn z s (effect_of p (view_of z p.register s y)))) m
      (subst (λ (v : View). TurnsAlike r s (turn Byte r (effect_of p (view_of Byte p.register r x))) (turn Byte s (effect_of p v)))
      (view_same p.register r s x y same e)
      (by_effect (effect_of p (view_of Byte p.register r x))))

-- the byte mark is byte mode
byte_plan : (w : ℕ) → ByteMark w → (plan_of (named_by w)).mode ≡ Byte
unfolding plan_of
byte_plan w b = ap mode_of b

-- two judged cycles
module _ (m n : Machine) (same : SameLowBytes m.registers n.registers) (c d : Words) (alike : CyclesAlike m.registers.waiting c d) where
  abbrev r : Registers
  r = latched m.registers c.input c.pins

  abbrev s : Registers
  s = latched n.registers d.input c.pins

  after_latch : SameLowBytes r s
  after_latch = latched_alike m.registers n.registers c.input d.input c.pins same alike.input

  -- from the latched registers to those at the start: the latch is not among RAM and ACC
  since : (t u : Turned) → TurnsAlike r s t u → TurnsAlike m.registers n.registers t u
  since t u a = record {
    answer = a.answer;
    ends = a.ends;
    first = record { ram = a.first.ram; acc = a.first.acc };
    second = record { ram = a.second.ram; acc = a.second.acc };
  }

  -- the second run's cycle, with the first's pins
  abbrev d' : Words
  d' = record { lines = d.lines; input = d.input; pins = c.pins }

  refuses : (k : ℕ) → TurnsAlike m.registers n.registers (turn_of (Refuse k) m r c) (turn_of (Refuse k) n s d')
  refuses k = record { answer = refl; ends = same; first = unchanged m.registers; second = unchanged n.registers }

  waits : c.lines ≡ d.lines → TurnsAlike m.registers n.registers (turn_of Wait m r c) (turn_of Wait n s d')
  waits e = record {
    answer = rw same.status;
    ends = record { ram = same.ram; acc = same.acc; latch = after_latch.latch; status = same.status; waiting = ap Held e };
    first = record { ram = refl; acc = refl };
    second = record { ram = refl; acc = refl };
  }

  performs : (w x y : ℕ) → ByteMark w → low_byte x ≡ low_byte y
      → TurnsAlike m.registers n.registers (turn_of (perform (named_by w) x) m r c) (turn_of (perform (named_by w) y) n s d')
  performs w x y b e =
      since (performed_turn (named_by w) (plan_of (named_by w)) r x c.pins) (performed_turn (named_by w) (plan_of (named_by w)) s y c.pins)
      (performed_alike (named_by w) (plan_of (named_by w)) r s c.pins after_latch x y (byte_plan w b) e)

  -- an accepted one
  accepted_alike : (w : Waiting) → LinesAlike w c.lines d.lines → ByteMark (word_about w c.lines)
      → TurnsAlike m.registers n.registers (turn_of (accepted_as w c) m r c) (turn_of (accepted_as w d') n s d')
  accepted_alike Nothing e b =
      subst (λ (l : ℕ). TurnsAlike m.registers n.registers (turn_of (accepted_as Nothing c) m r c)
      (turn_of (accepted_as Nothing (record { lines = l; input = d.input; pins = c.pins })) n s d')) e
      (by_test (takes_immediate c.lines))
    where
      by_test : (t : Bool) → TurnsAlike m.registers n.registers (turn_of (pick t Wait (perform (named_by c.lines) 0)) m r c)
          (turn_of (pick t Wait (perform (named_by c.lines) 0)) n s d')
      by_test true = waits e
      by_test false = performs c.lines 0 0 b refl
  accepted_alike (Held w) e b = performs w c.lines d.lines b e

  -- the same number in both
  numbers : (w : Waiting) → LinesAlike w c.lines d.lines → refusal (checks_of w c) ≡ refusal (checks_of w d')
  numbers Nothing e = ap (λ (l : ℕ). refusal (begin_checks (record { lines = l; input = d.input; pins = c.pins }))) e
  numbers (Held w) e = refl

  turns_by : (w : Waiting) → LinesAlike w c.lines d.lines → (refusal (checks_of w c) ≡ 0 → ByteMark (word_about w c.lines))
      → TurnsAlike m.registers n.registers (turn_of (judgement_of w c) m r c) (turn_of (judgement_of w d') n s d')
  unfolding judgement_of
  turns_by w e b =
      subst (λ (k : ℕ). TurnsAlike m.registers n.registers (turn_of (judgement_of w c) m r c) (turn_of (pick (eqb k 0) (accepted_as w d') (Refuse k)) n s d'))
      (numbers w e) (by_test (eqb (refusal (checks_of w c)) 0) refl)
    where
      by_test : (t : Bool) → eqb (refusal (checks_of w c)) 0 ≡ t
          → TurnsAlike m.registers n.registers (turn_of (pick t (accepted_as w c) (Refuse (refusal (checks_of w c)))) m r c)
          (turn_of (pick t (accepted_as w d') (Refuse (refusal (checks_of w c)))) n s d')
      by_test true q = accepted_alike w e (b (eqb-true (refusal (checks_of w c)) 0 q))
      by_test false q = refuses (refusal (checks_of w c))

  -- a mark is asked only of a word that is not refused
  pub turns_alike : (refusal (checks_of m.registers.waiting c) ≡ 0 → ByteMark (word_about m.registers.waiting c.lines))
      → TurnsAlike m.registers n.registers (cycle_of m c) (cycle_of n d)
  unfolding cycle_of
  turns_alike b =
      subst (λ (p : ℕ). TurnsAlike m.registers n.registers (cycle_of m c) (cycle_of n (record { lines = d.lines; input = d.input; pins = p }))) alike.pins
      (subst (λ (w : Waiting). TurnsAlike m.registers n.registers (cycle_of m c) (turn_of (judgement_of w d') n s d')) same.waiting
      (turns_by m.registers.waiting alike.lines b))
