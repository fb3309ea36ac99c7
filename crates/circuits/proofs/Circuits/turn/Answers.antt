use Rattle.std.proofs.Common.{Some, None, Ok, ap, subst}
use Rattle.std.specs.Option.{option_map}
use Rattle.input.specs.Pending.{Comes, Ends, HandsOut}
use Rattle.text.specs.Reader.{listed}
use Rattle.circuits.specs.Coming.{AtEnd, LineTaken}
use Rattle.circuits.proofs.Lines.{ended_turns, handed_turns, line_ends, line_faulty, line_passes, misread_turns, turns_at}
use Rattle.circuits.proofs.Circuits.turn.Goals as goal

pub returns-in-Ok-Some-clause-turns : goal.returns-in-Ok-Some-clause-turns
returns-in-Ok-Some-clause-turns g c =
    let t = c.args.self.now.feed.text in
    let u = c.next.new.self.text in
    let s = option_map listed c.args.self.now.reader.current in
    let s' = option_map listed c.take.new.self.reader.current in
    let h : HandsOut t u = subst (Comes t u) c.in-Ok-Line.field-0-is c.in-Ok-Line.ensures.comes in
    let l : LineTaken s u s' (Ok (Some c.in-Ok-Some.listing)) = subst (λ d. LineTaken s u s' (Ok d)) c.in-Ok-Some.field-0-is c.in-Ok-Some.ensures.line in
    turns_at s t s' u _ _ (ap (λ f. f.text) c.take.ensures.feed) (handed_turns s s' t u _ h (line_ends s s' t u h c.in-Ok-Some.listing l))

pub returns-in-Ok-None-clause-turns : goal.returns-in-Ok-None-clause-turns
returns-in-Ok-None-clause-turns g c =
    let t = c.args.self.now.feed.text in
    let u = c.next.new.self.text in
    let s = option_map listed c.args.self.now.reader.current in
    let s' = option_map listed c.take.new.self.reader.current in
    let h : HandsOut t u = subst (Comes t u) c.in-Ok-Line.field-0-is c.in-Ok-Line.ensures.comes in
    let l : LineTaken s u s' (Ok None) = subst (λ d. LineTaken s u s' (Ok d)) c.in-Ok-None.field-0-is c.in-Ok-None.ensures.line in
    turns_at s t s' u _ _ (ap (λ f. f.text) c.take.ensures.feed) (handed_turns s s' t u _ h (line_passes s s' t u h l))

pub returns-in-Err-take-clause-turns : goal.returns-in-Err-take-clause-turns
returns-in-Err-take-clause-turns g c =
    let t = c.args.self.now.feed.text in
    let u = c.next.new.self.text in
    let s = option_map listed c.args.self.now.reader.current in
    let s' = option_map listed c.take.new.self.reader.current in
    let h : HandsOut t u = subst (Comes t u) c.in-Ok-Line.field-0-is c.in-Ok-Line.ensures.comes in
    turns_at s t s' u _ _ (ap (λ f. f.text) c.take.ensures.feed) (handed_turns s s' t u _ h (line_faulty s s' t u h c.in-Err-take.wrong c.in-Err-take.ensures.line))

pub returns-in-Ok-End-clause-turns : goal.returns-in-Ok-End-clause-turns
returns-in-Ok-End-clause-turns g c =
    let t = c.args.self.now.feed.text in
    let u = c.next.new.self.text in
    let s = option_map listed c.args.self.now.reader.current in
    let h : Ends t u = subst (Comes t u) c.in-Ok-End.field-0-is c.in-Ok-End.ensures.comes in
    let e : AtEnd s u c.end.result = c.end.ensures in
    ended_turns s t u c.end.result h e

pub returns-in-Err-clause-turns : goal.returns-in-Err-clause-turns
returns-in-Err-clause-turns g c =
    misread_turns (option_map listed c.args.self.now.reader.current) c.args.self.now.feed.text c.next.new.self.text c.in-Err.misread c.in-Err.ensures.fault.1 c.in-Err.ensures.fault.0 c.in-Err.ensures.fault.2
