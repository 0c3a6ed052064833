mod ReadTables
