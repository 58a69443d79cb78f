use Rattle.std.proofs.Common.{◌∙◌, sym, ap, subst}
use Rattle.jgen.specs.declared.making.MadeJob.{MadeJob}
use Rattle.joutput.specs.jio.MemoryDevices.{files_of}
use Rattle.jstore.proofs.MadePaths.{AreNamed, all_named, named_front}
use Rattle.jstore.proofs.held.held_files.Goals as goal

pub held_file-requires : goal.held_file-requires
held_file-requires c = named_front _ _ c.in-Some.file c.in-Some.ensures.steps.0 c.loop-file.invariant.named

pub loop-file-init : goal.loop-file-init
loop-file-init c = record {
  files = ap files_of c.new-files.ensures.items;
  named = subst AreNamed (sym (c.into_iter-file-iterator.ensures.into_iter_gives.0 ∙ c.into_vec-file-items.ensures ∙ ap (λ (made : MadeJob). made.files) c.in_ok-job.ensures)) (all_named c.args.seed c.args.size c.requires.most);
}
