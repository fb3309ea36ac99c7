use Rattle.std.proofs.Common.{rules, codes}
use Rattle.std.specs.String.{string_bytes}
use Rattle.circuit.specs.Lent.{gate_count, gate_in, register_count, register_in}
use Rattle.writing.specs.Written.{line_of, rows, title_of, times_line, register_line, gate_line, end_line}
use Rattle.writing.proofs.TextLaws.{joined}
use Rattle.writing.proofs.put.Goals as goal

pub returns : goal.returns
returns c =
    let registers = c.args.circuit.registers.now in
    let gates = c.args.circuit.gates.now in
    joined (string_bytes c.args.text.now) {s1 = string_bytes c.put_title.new.text} {s2 = string_bytes c.put_times.new.text} {s3 = string_bytes c.put_registers.new.text} {s4 = string_bytes c.put_gates.new.text}
    (line_of (codes "circuit") (title_of c.args.name.now)) (times_line c.args.circuit.times.now)
    (rows (λ r. register_line (register_in registers r)) (register_count registers)) (rows (λ k. gate_line (gate_in gates k)) (gate_count gates)) end_line
    (search rules) (search rules) (search rules) (search rules) (search rules)
