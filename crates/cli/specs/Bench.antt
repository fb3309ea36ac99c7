-- What `bench` can be asked for.
use Rattle.std.specs.Prelude.{◌≡◌, ◌⊎◌, ◌≢◌, IfSome, None, codes}
use Rattle.cli.specs.declared.bench.BenchOptions.{BenchOptions}

-- one run can be written to a file; of a number of trials none is
abbrev pub WritesOneRun : BenchOptions → Type 0
WritesOneRun o = (o.vcd ≡ None) ⊎ (o.trials ≡ None)

-- no more than one of the two files is standard input
abbrev pub ReadsStandardOnce : BenchOptions → Type 0
ReadsStandardOnce o = o.circuit.now ≡ codes "-" → o.delays.now ≢ codes "-"

-- what is written does not have the name of a file that is read
abbrev pub KeepsFiles : BenchOptions → Type 0
KeepsFiles o = IfSome o.vcd (λ file. (file.now ≢ o.circuit.now) × (file.now ≢ o.delays.now))
