use Rattle.std.proofs.Common.{◌≡◌, ◌*◌, ◌<◌, ◌≤◌, ◌++◌, None, length, map, drop}
use Rattle.std.specs.Prelude.{IfSome}
use Rattle.jground.specs.jbase.FirstFaults.{first_some}
use Rattle.jresolution.specs.juses.PoolTables.{pool_at}
use Rattle.jresolution.specs.juses.InternedTypes.{named}
use Rattle.jtyping.specs.jwelltyped.DeclaredFrames.{written_from}
use Rattle.jverify.specs.LocalChains.{AreMade}
use Rattle.jverify.specs.FrameTables.{AreKept, Rise, fault_in, given, written_named}
use Rattle.jverify.specs.InternedMethods.{seen_body}
use Rattle.jverify.proofs.WrittenFrames.{AreBefore, least, left}
use Rattle.jverify.proofs.NumberedTypes.{makes_named}
use Rattle.jverify.proofs.reading.declared_of.Given as goal

abbrev pub invariant-loop-frame : goal.invariant-loop-frame
invariant-loop-frame g l =
    let makes = g.N.News.makes l.news in
    let pool = pool_at l.p l.class in
    let most = l.body.max_locals in
    let ws = written_from l.p pool most None (map (named l.p) l.params) l.frames in
    record {
      within : l.last ≤ length l.chains;
      near : IfSome l.earlier (λ at. at < l.frame-index * 65536);
      kept : AreKept l.chains most l.all.items;
      rise : Rise l.all.items;
      before : AreBefore (least l.earlier) l.all.items;
      made : AreMade makes l.chains;
      so_far : map (written_named l.p most) (map (given l.chains) l.all.items) ++ left l.p pool most l.earlier l.chains l.last (drop l.frame-index l.frames) ≡ ws;
      faults : first_some (fault_in (seen_body l.body) (makes_named l.p makes)) (left l.p pool most l.earlier l.chains l.last (drop l.frame-index l.frames)) ≡ first_some (fault_in (seen_body l.body) (makes_named l.p makes)) ws;
    }
