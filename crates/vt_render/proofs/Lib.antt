mod RowLimits
