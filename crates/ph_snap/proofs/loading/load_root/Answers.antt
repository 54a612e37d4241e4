use Rattle.ph_snap.proofs.Wholes.{root-fault, root-none, root-extra, root-read}
use Rattle.ph_snap.proofs.loading.load_root.Goals as goal

pub returns-then-root-bytes-clause-err : goal.returns-then-root-bytes-clause-err
returns-then-root-bytes-clause-err g c =
    root-extra c.args.format.now.kind c.args.format.now.width c.args.format.now.dims c.args.bytes.now c.in-Ok.root.end c.in-Ok.ensures.loaded.none c.if-root-bytes.true

pub returns-else-root-bytes-clause-none : goal.returns-else-root-bytes-clause-none
returns-else-root-bytes-clause-none g c =
    root-none c.args.format.now.kind c.args.format.now.width c.args.format.now.dims c.args.bytes.now c.in-Ok.root.end c.in-Ok.ensures.loaded.none c.if-root-bytes.false

pub returns-else-root-bytes-clause-tree : goal.returns-else-root-bytes-clause-tree
returns-else-root-bytes-clause-tree g c =
    root-read c.args.format.now.dims c.args.bytes.now _ c.in-Ok.root.node c.in-Ok.ensures.loaded.node

pub returns-in-Err-clause-err : goal.returns-in-Err-clause-err
returns-in-Err-clause-err g c =
    root-fault c.args.format.now.kind c.args.format.now.width c.args.format.now.dims c.args.bytes.now c.in-Err.fault c.in-Err.ensures.err
