use Rattle.fuse_nodes.proofs.table.Nodes.+put_path_within.Given as goal

abbrev pub decreases-put_path_within : goal.decreases-put_path_within
decreases-put_path_within l = l.names
