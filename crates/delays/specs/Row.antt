-- The lines of delays and the like, each by itself.
use Rattle.std.specs.Prelude.{ℕ, zero, suc, ◌-◌, ◌^◌, Bool, true, false, cond, List, [], ◌∷◌, slice_index, Some, None, Ok, Err, Option, Result, ◌==◌, nat_lt}
use Rattle.fields.specs.Fields.{field, fields}
use Rattle.fields.specs.declared.fault.Expected.{Expected}
use Rattle.fields.specs.declared.fault.Expected.TheVariants.{After, Bit, Register}
use Rattle.fields.specs.declared.line.Line.{Line}
use Rattle.fields.specs.declared.line.Line.TheVariants.{Start, Delay}
use Rattle.script.specs.declared.entry.Entry.{Entry}

-- what follows from a value, or what was expected in its place
abbrev pub and_then : {A B : Type 0} → Result A Expected → (A → Result B Expected) → Result B Expected
and_then (Ok x) f = f x
and_then (Err e) f = Err e

-- the numbers of a line, unless their count is wrong
abbrev pub counted : Line → Result (Option (List ℕ)) Expected → Result (List ℕ) Expected
counted l (Ok (Some ns)) = Ok ns
counted l (Ok None) = Err (After l)
counted l (Err e) = Err e

-- just n numbers, after the first word of a line
unfoldable pub numbers : Line → ℕ → List (List ℕ) → Result (List ℕ) Expected
numbers l n ws = counted l (fields false None 0 n ws)

-- just one
unfoldable pub number_after : Line → List (List ℕ) → Result ℕ Expected
number_after l ws = and_then (numbers l 1 ws) (λ ns. Ok (slice_index ns 0))

-- the bit that a number is
abbrev pub bit_of : ℕ → Result Bool Expected
bit_of n = cond (n == 0) (Ok false) (cond (n == 1) (Ok true) (Err Bit))

-- a bit for each of n registers
unfoldable pub bits : (n : ℕ) → List (List ℕ) → Result (List Bool) Expected
bits zero [] = Ok []
bits zero (w ∷ ws) = Err (After Start)
bits (suc n) [] = Err (After Start)
bits (suc n) (w ∷ ws) = and_then (field false false w) (λ x. and_then (bit_of x) (λ b. and_then (bits n ws) (λ bs. Ok (b ∷ bs))))

-- three numbers on line n, counted from 0: moment or cycle, gate or register, and value
abbrev pub entry_of : (n : ℕ) → List ℕ → Entry
entry_of n ns = record { line = n; when = slice_index ns 0; who = slice_index ns 1; one = slice_index ns 2; two = 0 }

unfoldable pub entry_after : (n : ℕ) → Line → List (List ℕ) → Result Entry Expected
entry_after n l ws = and_then (numbers l 3 ws) (λ ns. Ok (entry_of n ns))

-- it speaks of one of q registers, and has a bit for its value
abbrev pub of_register : (q : ℕ) → Entry → Result Entry Expected
of_register q e = cond (nat_lt e.who q) (and_then (bit_of e.one) (λ b. Ok e)) (Err Register)

unfoldable pub bit_after : (q n : ℕ) → Line → List (List ℕ) → Result Entry Expected
bit_after q n l ws = and_then (entry_after n l ws) (of_register q)

-- a place past the gates of every circuit
abbrev pub no_gate : ℕ
no_gate = 2 ^ 32 - 1

-- the gate whose output a signal is, over q registers
abbrev pub gate_of : (q signal : ℕ) → ℕ
gate_of q signal = cond (nat_lt signal q) no_gate (signal - q)

-- four numbers on line n, counted from 0: moment, signal, and two delays
abbrev pub delay_of : (q n : ℕ) → List ℕ → Entry
delay_of q n ns = record { line = n; when = slice_index ns 0; who = gate_of q (slice_index ns 1); one = slice_index ns 2; two = slice_index ns 3 }

unfoldable pub delay_after : (q n : ℕ) → List (List ℕ) → Result Entry Expected
delay_after q n ws = and_then (numbers Delay 4 ws) (λ ns. Ok (delay_of q n ns))
