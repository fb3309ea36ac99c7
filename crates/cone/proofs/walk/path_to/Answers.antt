use Rattle.std.proofs.Common.{◌≤◌, arith}
use Rattle.cone.proofs.Walking.{path_fits, path_is}
use Rattle.cone.proofs.walk.path_to.Goals as goal

pub overflow_mul-result : goal.overflow_mul-result
overflow_mul-result c =
    let few : c.gates_on-count.result ≤ 16384 = omega (arith, c.gates_on-count.ensures, path_fits c.args.edge c.args.circuit c.args.to c.requires.signal, c.args.circuit.few) in
    omega arith

pub overflow_add-result : goal.overflow_add-result
overflow_add-result c =
    let few : c.gates_on-count.result ≤ 16384 = omega (arith, c.gates_on-count.ensures, path_fits c.args.edge c.args.circuit c.args.to c.requires.signal, c.args.circuit.few) in
    omega arith

pub put-requires-clause-room : goal.put-requires-clause-room
put-requires-clause-room c = omega (arith, c.gates_on-count.ensures, path_fits c.args.edge c.args.circuit c.args.to c.requires.signal)

pub returns : goal.returns
returns c = path_is c.args.edge c.args.circuit c.args.to _ _ _ c.requires.signal c.gates_on-count.ensures c.requires.room c.put.ensures
