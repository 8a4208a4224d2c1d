use Rattle.std.proofs.Common.{◌<◌, ◌∷◌, [], ◌++◌, arith}
use Rattle.std.proofs.iter.Next.{Yields-more}
use Rattle.std.proofs.lemmas.List.{length_push}
use Rattle.tinyvec_slots.proofs.putting.put_until_full.Goals as goal

pub loop-at-preserved : goal.loop-at-preserved
loop-at-preserved g c =
    let at = c.loop-at in
    let run = at.invariant.ran in
    let x = c.in-Some.item in
    let room : at.at < g.V.CanPut.room c.args.vec.now = omega (arith, c.loop-at-test.true, c.room.ensures, g.met.V.CanPut.puts_room _ _ _ run.3) in record {
      can = c.in-Some.ensures.goes.keeps;
      in_bounds = omega (arith, room);
      ran = (
        run.0 ++ x ∷ [],
        Yields-more g.I.Iterator.next_gives _ run.0 _ _ _ run.1 c.in-Some.ensures.steps,
        omega (arith, run.2, length_push run.0 x),
        c.put.ensures _ run.0 run.3 run.2 room,
      );
    }
