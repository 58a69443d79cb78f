use Rattle.std.proofs.Common.{◌≡◌, ◌∙◌, refl, ap}
use Rattle.jstore.specs.Folders.{class_path, path_of}
use Rattle.jstore.proofs.StoredFiles.{below_more, paths_more}
use Rattle.jstore.proofs.storing.all_below.Goals as goal

pub loop-file-preserved : goal.loop-file-preserved
loop-file-preserved c =
    let at : c.in_ok-path.path ≡ path_of c.args.to.now c.in-Some.file = c.in_ok-path.ensures ∙ ap (class_path c.args.to.now c.in-Some.file.domain) c.as_slice.ensures in
    record {
      files = below_more c.args.to.now c.loop-file.yielded c.in-Some.file c.loop-file.made _ (record { path = c.in_ok-path.path; bytes = c.in-Some.file.bytes }) at refl c.in_ok-push-2.ensures.ok c.loop-file.invariant.files;
      paths = paths_more c.args.to.now c.loop-file.yielded c.in-Some.file c.loop-file.paths _ c.in_ok-copy.field-0 (c.in_ok-copy.ensures ∙ at) c.in_ok-push.ensures.ok c.loop-file.invariant.paths;
    }
