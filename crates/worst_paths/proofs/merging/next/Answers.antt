use Rattle.std.proofs.Common.{arith}
use Rattle.std.proofs.lemmas.List.{drop_more}
use Rattle.worst_paths.specs.Merge.{next_of}
use Rattle.worst_paths.specs.Offers.{no_entry, offers}
use Rattle.worst_paths.proofs.MergingLaws.{drop_past, named_length}
use Rattle.worst_paths.proofs.merging.next.Goals as goal

pub returns-then-j-two : goal.returns-then-j-two
unfolding next_of
returns-then-j-two c =
    let n = named_length c.args.one.by c.args.one.delay c.args.one.row.now in
    let m = named_length c.args.two.by c.args.two.delay c.args.two.row.now in
    let a = drop_past (offers c.args.one) c.args.i (omega arith) in
    let b = drop_past (offers c.args.two) c.args.j (omega arith) in
    rw (a, b)

pub returns-then-i-one : goal.returns-then-i-one
unfolding next_of
returns-then-i-one c =
    let n = named_length c.args.one.by c.args.one.delay c.args.one.row.now in
    let m = named_length c.args.two.by c.args.two.delay c.args.two.row.now in
    let a = drop_past (offers c.args.one) c.args.i (omega arith) in
    let b = drop_more (offers c.args.two) c.args.j no_entry (omega arith) in
    rw (a, b)

pub returns-then-j-two-2 : goal.returns-then-j-two-2
unfolding next_of
returns-then-j-two-2 c =
    let n = named_length c.args.one.by c.args.one.delay c.args.one.row.now in
    let m = named_length c.args.two.by c.args.two.delay c.args.two.row.now in
    let a = drop_more (offers c.args.one) c.args.i no_entry (omega arith) in
    let b = drop_past (offers c.args.two) c.args.j (omega arith) in
    rw (a, b)

pub returns : goal.returns
unfolding next_of
returns c =
    let n = named_length c.args.one.by c.args.one.delay c.args.one.row.now in
    let m = named_length c.args.two.by c.args.two.delay c.args.two.row.now in
    let a = drop_more (offers c.args.one) c.args.i no_entry (omega arith) in
    let b = drop_more (offers c.args.two) c.args.j no_entry (omega arith) in
    rw (a, b, c.is_second.ensures, c.at.ensures, c.at-2.ensures)
