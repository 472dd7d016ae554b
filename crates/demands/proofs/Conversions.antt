-- Demand 2 for conversions: words and named instructions, and cycles and trace blocks, there and back without loss, from the calls' own answers.
use mathlib.Core.Path.{◌≡◌, sym, subst}
use mathlib.Core.List.{List, ◌++◌}
use Prim.Native.Nat.{ℕ, ◌≤◌, ◌<◌}
use lib.ListN.{length, take, drop}
use Rattle.isa.specs.declared.Named.{Named}
use Rattle.std.specs.Prelude.{Result, Ok}
use Rattle.refusals.specs.declared.Refusal.{Refusal}
use Rattle.refusals.specs.declared.Refused.{Refused}
use Rattle.isa.proofs.Laws.{encode_decode, decode_encode, decode_unique, encode_unique}
use Rattle.demands.specs.Calls.{Filling, Decodes, Encodes, ReadsTrace, WritesTrace}
use Rattle.trace.proofs.Trips.{written_read, read_written}
use Rattle.trace.specs.Layout.{Bytes}

-- a 16-bit word that is decoded encodes to itself, and an instruction that is encoded decodes to itself
pub word_there_and_back : (w : ℕ) → w < 65536 → (n : Named) → Decodes w (Ok n) → (r : Result ℕ Refusal) → Encodes n r → r ≡ Ok w
word_there_and_back w h n d r e = encode_unique n r (Ok w) e (sym (encode_decode w h n (sym d)))

pub name_there_and_back : (n : Named) (w : ℕ) → Encodes n (Ok w) → (r : Result Named Refusal) → Decodes w r → r ≡ Ok n
name_there_and_back n w e r d = decode_unique w r (Ok n) d (sym (decode_encode n w (sym e)))

-- cycle words that are written, and the bytes filled then read: all the words, if there is room for them
pub cycles_there_and_back : (words lent : List ℕ) (n : ℕ) (o : Filling (Result ℕ Refused)) → WritesTrace (words, lent) o → o.answer ≡ Ok n
    → (cycles : List ℕ) (q : Filling (Result ℕ Refused)) → ReadsTrace (take n o.after, cycles) q → length words ≤ length cycles
    → (q.answer ≡ Ok (length words)) × (q.after ≡ words ++ drop (length words) cycles)
cycles_there_and_back words lent n o w e cycles q r h =
    written_read words n lent o.after (subst (λ (a : Result ℕ Refused). WritesTrace (words, lent) (record { answer = a; after = o.after })) e w) q.answer cycles q.after r h

-- a trace that is read, and the words filled then written: the same bytes
pub trace_there_and_back : (t lent : List ℕ) (n : ℕ) (o : Filling (Result ℕ Refused)) → Bytes t → ReadsTrace (t, lent) o → o.answer ≡ Ok n
    → (trace : List ℕ) (q : Filling (Result ℕ Refused)) → WritesTrace (take n o.after, trace) q → length t ≤ length trace
    → (q.answer ≡ Ok (length t)) × (q.after ≡ t ++ drop (length t) trace)
trace_there_and_back t lent n o b r e trace q w h =
    read_written t n lent o.after b (subst (λ (a : Result ℕ Refused). ReadsTrace (t, lent) (record { answer = a; after = o.after })) e r) q.answer trace q.after w h
